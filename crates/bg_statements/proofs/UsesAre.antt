-- What a use of a definition comes to is what a host, a predicate or a rule is to be.
use Rattle.std.proofs.Common.{◌≡◌, ◌+◌, ◌<◌, ◌≤◌, ◌++◌, ◌∷◌, [], ℕ, true, List, length, Result, Ok, All, refl, sym, ap, subst, ◌∙◌, arith}
use Rattle.std.specs.Prelude.{slice_get, eqb}
use Rattle.std.proofs.lemmas.Bool.{and_parts}
use Rattle.bg_base.specs.Limits.{largest_counter, most_expression_nodes}
use Rattle.bg_base.specs.declared.big.Big.{Big}
use Rattle.bg_base.specs.declared.big.NodeRow.{NodeRow}
use Rattle.bg_base.specs.declared.labels.Label.{Label}
use Rattle.bg_base.specs.declared.labels.Value.{Value}
use Rattle.bg_base.specs.declared.signature.Control.{Control}
use Rattle.bg_base.specs.Bigraph.{IsValid}
use Rattle.bg_base.specs.Elementary.{counted}
use Rattle.bg_base.specs.Translation.{node_numbers}
use Rattle.bg_base.proofs.Counted.{Mem-counted}
use Rattle.bg_lists.specs.Lists.{Mem}
use Rattle.bg_lists.proofs.Members.{Mem-map}
use Rattle.bg_lists.proofs.Words.{All-from_members}
use Rattle.bg_machine.specs.declared.met.Met.{Met}
use Rattle.bg_machine.specs.Calls.{begun}
use Rattle.bg_rules.specs.declared.condition.Condition.{Condition}
use Rattle.bg_rules.specs.declared.predicate.Predicate.{Predicate}
use Rattle.bg_rules.specs.Hosts.{IsHost, IsHostBig, fresh_host}
use Rattle.bg_rules.specs.Limits.{IsWithinLimits}
use Rattle.bg_rules.specs.Reaction.{HostState}
use Rattle.bg_rules.specs.Rules.{RuleParts, AreSides, IsNumberedFromZero, IsRule}
use Rattle.bg_rules.specs.Solid.{IsPattern, IsSolid}
use Rattle.bg_rules.proofs.Counters.{IsHost-fresh, fresh_within}
use Rattle.bg_rules.proofs.SolidLaws.{nil_from_test}
use Rattle.bg_statements.specs.declared.rule_values.ConditionValue.{ConditionValue}
use Rattle.bg_statements.specs.declared.rule_values.RuleValue.{RuleValue}
use Rattle.bg_statements.specs.Defined.{Defined}
use Rattle.bg_statements.specs.Rules.{ConditionExpression, RuleExpression}
use Rattle.bg_statements.specs.RuleValues.{Setting, whole_value, with_value, conditions_valued, rule_tested, map_or_identity, rule_valued, solid_at}
use Rattle.bg_statements.specs.Settings.{IsWhole, IsWholeValue}
use Rattle.bg_statements.specs.Uses.{setting_with, bigraph_used, is_ground, ground_at, host_used, predicate_used, rule_parts, rule_used}
use Rattle.bg_statements.proofs.TestsPassed.{held, one_more, SidesPassed, solid_same, conditions_passed, rule_passed}
use Rattle.bg_statements.proofs.Turns.{turns_keep}
use Rattle.bg_statements.proofs.WholeValues.{whole_value_is}
use Rattle.bg_terms.specs.Expressions.{Expression}
use Rattle.bg_terms.proofs.Numbered.{bound}
use Rattle.bg_values.proofs.Bindings.{ok_same}
use Rattle.bg_values.specs.declared.refusal.Cause.TheVariants.{UnknownName}
use Rattle.bg_values.specs.Outcome.{there_or}

-- ---- patterns

pattern_is : (big : Big) → IsWhole big → IsSolid big → IsPattern big
pattern_is big is solid = record { valid = is.valid; solid = solid; edges_used = is.edges_used }

-- ---- hosts

numbers_small : (numbers : List ℕ) (count : ℕ) → numbers ≡ counted 0 count → count ≤ most_expression_nodes → (n : ℕ) → Mem n numbers → n < largest_counter
numbers_small numbers count same few n m =
    let k = Mem-counted 0 count n (subst (Mem n) same m) in
    let below : n < 0 + count = k.1 in
    omega (arith, few, below)

-- the bigraph of a host, within the limits
pub record IsHostValue (big : Big) : Type 0 where
  pub fits : IsHostBig big
  pub small : IsWithinLimits (fresh_host big)

pub host_value_is : (big : Big) → IsWholeValue big → is_ground big ≡ true → IsHostValue big
host_value_is big is ground =
    let empty = and_parts (eqb (length big.sites) 0) (eqb (length big.inner) 0) ground in
    record {
      fits = record {
        ground = record { valid = is.whole.valid; no_sites = nil_from_test big.sites empty.0; no_inner = nil_from_test big.inner empty.1 };
        names_plain = is.names_plain;
        edges_used = is.whole.edges_used;
      };
      small = fresh_within big is.few_nodes is.few_edges
          (All-from_members (λ (row : NodeRow). row.id < largest_counter) big.nodes
          (λ row m. numbers_small (node_numbers big.nodes) (length big.nodes) is.numbered.nodes_counted is.few_nodes row.id
          (Mem-map (λ (r : NodeRow). r.id) m)))
          (All-from_members (λ (edge : ℕ). edge < largest_counter) big.edges
          (λ edge m. numbers_small big.edges (length big.edges) is.numbered.edges_counted is.few_edges edge m));
    }

-- ---- rules

sides_are : (redex reactum : Big) (entries : List ℕ) (pattern : Big) → IsWhole redex → IsValid reactum → SidesPassed redex reactum entries pattern
    → AreSides pattern reactum entries
sides_are redex reactum entries pattern is valid passed =
    subst (λ big. AreSides big reactum entries) passed.same
    (record { is_pattern = pattern_is redex is passed.solid; reactum_valid = valid; agree = passed.agree; fits = passed.fits })

-- the sides are sides of a rule, the reactum is numbered from 0, and the conditions have patterns
pub record IsRuleValue (value : RuleValue) : Type 0 where
  pub sides : AreSides value.redex value.reactum value.map
  pub reactum_numbered : IsNumberedFromZero value.reactum
  pub conditions_patterns : All (λ (c : Condition). IsPattern c.pattern) value.conditions

module _ (s : Setting) where
  -- the patterns of the conditions are bigraphs of whole expressions
  abbrev AreWholeValues : List ConditionValue × Met → Type 0
  AreWholeValues found = (c : ConditionValue) → Mem c found.0 → IsWholeValue c.big

  one_whole : (c : ConditionExpression) (found more : List ConditionValue × Met) → AreWholeValues found → with_value s c found ≡ Ok more → AreWholeValues more
  one_whole c found more are is =
      let b = bound (whole_value s c.pattern found.1)
      (λ (v : Big × Met). Ok (found.0 ++ (record { positive = c.positive; side = c.side; at = c.at; big = v.0 }) ∷ [], v.1)) more is in
      subst AreWholeValues (ok_same b.goes_on)
      (one_more (λ (x : ConditionValue). IsWholeValue x.big) found.0 _ are (whole_value_is s c.pattern found.1 b.found b.is))

  conditions_whole : (conditions : List ConditionExpression) (met : Met) (v : List ConditionValue × Met) → conditions_valued s conditions met ≡ Ok v
      → AreWholeValues v
  conditions_whole conditions met v is =
      turns_keep (with_value s) AreWholeValues conditions (λ c m found more. one_whole c found more) ([], met) v (λ c m. elim m [ ]) is

  pub rule_value_is : (rule : RuleExpression) (met : Met) (v : RuleValue × Met) → rule_valued s rule met ≡ Ok v → IsRuleValue v.0
  rule_value_is rule met v is =
      let a = bound (whole_value s rule.redex met) _ v is in
      let b = bound (whole_value s rule.reactum a.found.1) _ v a.goes_on in
      let c = bound (conditions_valued s rule.conditions b.found.1) _ v b.goes_on in
      let entries = map_or_identity rule.map a.found.0 in
      let e = bound (rule_tested rule.at a.found.0 b.found.0 entries c.found.0) (λ (value : RuleValue). Ok (value, c.found.1)) v c.goes_on in
      let redex = whole_value_is s rule.redex met a.found a.is in
      let reactum = whole_value_is s rule.reactum a.found.1 b.found b.is in
      let conditions = conditions_whole rule.conditions b.found.1 c.found c.is in
      let passed = rule_passed rule.at a.found.0 b.found.0 entries c.found.0 e.found e.is in
      subst (λ (w : RuleValue × Met). IsRuleValue w.0) (ok_same e.goes_on)
      (record {
        sides = subst (λ big. AreSides e.found.redex big e.found.map) passed.reactum_same
            (subst (AreSides e.found.redex b.found.0) passed.map_same
            (sides_are a.found.0 b.found.0 entries e.found.redex redex.whole reactum.whole.valid passed.sides));
        reactum_numbered = subst IsNumberedFromZero passed.reactum_same reactum.numbered;
        conditions_patterns = All-from_members (λ (x : Condition). IsPattern x.pattern) e.found.conditions
            (conditions_passed IsPattern c.found.0 e.found.conditions (λ x m solid. pattern_is x.big (conditions x m).whole solid) passed.tested);
      })

-- ---- uses

module _ (d : Defined) (at number : ℕ) where
  -- a bigraph
  pub bigraph_used_is : (values : List Value) (signature : List Control) (v : Big × List Control) → bigraph_used d at number values signature ≡ Ok v
      → IsWholeValue v.0
  bigraph_used_is values signature v is =
      let a = bound (there_or UnknownName at (slice_get d.expressions number)) _ v is in
      let b = bound (whole_value (setting_with d values) a.found (begun signature)) (λ (w : Big × Met). Ok (w.0, w.1.signature)) v a.goes_on in
      subst (λ (w : Big × List Control). IsWholeValue w.0) (ok_same b.goes_on) (whole_value_is (setting_with d values) a.found (begun signature) b.found b.is)

  -- a host
  pub host_used_is : (values : List Value) (signature : List Control) (v : HostState × List Control) → host_used d at number values signature ≡ Ok v
      → IsHostValue v.0.big
  host_used_is values signature v is =
      let a = bound (bigraph_used d at number values signature) _ v is in
      let b = bound (ground_at at a.found.0) (λ (host : HostState). Ok (host, a.found.1)) v a.goes_on in
      let ground = held (is_ground a.found.0) (Ok (fresh_host a.found.0)) _ b.found b.is in
      let same : fresh_host a.found.0 ≡ b.found = ok_same ground.1 in
      subst (λ (w : HostState × List Control). IsHostValue w.0.big) (ok_same b.goes_on)
      (subst (λ (host : HostState). IsHostValue host.big) same (host_value_is a.found.0 (bigraph_used_is values signature a.found a.is) ground.0))

  pub host_used_host : (values : List Value) (signature : List Control) (v : HostState × List Control) → host_used d at number values signature ≡ Ok v
      → IsHost v.0
  host_used_host values signature v is =
      let a = bound (bigraph_used d at number values signature) _ v is in
      let b = bound (ground_at at a.found.0) (λ (host : HostState). Ok (host, a.found.1)) v a.goes_on in
      let ground = held (is_ground a.found.0) (Ok (fresh_host a.found.0)) _ b.found b.is in
      let same : fresh_host a.found.0 ≡ b.found = ok_same ground.1 in
      let kept = host_value_is a.found.0 (bigraph_used_is values signature a.found a.is) ground.0 in
      subst (λ (w : HostState × List Control). IsHost w.0) (ok_same b.goes_on) (subst IsHost same (IsHost-fresh a.found.0 kept.fits kept.small))

  -- a predicate
  pub predicate_used_is : (label : Label) (signature : List Control) (v : Predicate × List Control) → predicate_used d at number label signature ≡ Ok v
      → IsPattern v.0.pattern
  predicate_used_is label signature v is =
      let a = bound (bigraph_used d at number label.args signature) _ v is in
      let b = bound (solid_at at a.found.0) (λ (big : Big). Ok (record { label = label; pattern = big }, a.found.1)) v a.goes_on in
      let so = solid_same at a.found.0 b.found b.is in
      subst (λ (w : Predicate × List Control). IsPattern w.0.pattern) (ok_same b.goes_on)
      (subst IsPattern so.same (pattern_is a.found.0 (bigraph_used_is label.args signature a.found a.is).whole so.solid))

  -- a rule
  pub rule_used_values : (label : Label) (class : ℕ) (signature : List Control) (v : RuleParts × List Control)
      → rule_used d at number label class signature ≡ Ok v → IsRule v.0 × All (λ (c : Condition). IsPattern c.pattern) v.0.conditions
  rule_used_values label class signature v is =
      let a = bound (there_or UnknownName at (slice_get d.rule_expressions number)) _ v is in
      let b = bound (rule_valued (setting_with d label.args) a.found (begun signature))
      (λ (w : RuleValue × Met). Ok (rule_parts label class w.0, w.1.signature)) v a.goes_on in
      let so = rule_value_is (setting_with d label.args) a.found (begun signature) b.found b.is in
      subst (λ (w : RuleParts × List Control). IsRule w.0 × All (λ (c : Condition). IsPattern c.pattern) w.0.conditions) (ok_same b.goes_on)
      (record { sides = so.sides; reactum_numbered = so.reactum_numbered }, so.conditions_patterns)

  pub rule_used_is : (label : Label) (class : ℕ) (signature : List Control) (v : RuleParts × List Control)
      → rule_used d at number label class signature ≡ Ok v → IsRule v.0
  rule_used_is label class signature v is = (rule_used_values label class signature v is).0
