-- What a use of a definition comes to is valid under the signature then reached, which goes on from the one before.
use Rattle.std.proofs.Common.{◌≡◌, ◌<◌, ◌++◌, ◌∷◌, [], ℕ, List, length, Ok, All, sym, ap, subst, ◌∙◌}
use Rattle.std.specs.Prelude.{slice_get}
use Rattle.std.proofs.lemmas.List.{append_assoc, append-nil}
use Rattle.bg_algebra.proofs.Changes.{lean_valid, lean_valid_under}
use Rattle.bg_algebra.proofs.Renamed.{rename_valid_under}
use Rattle.bg_base.specs.declared.big.Big.{Big}
use Rattle.bg_base.specs.declared.labels.Label.{Label}
use Rattle.bg_base.specs.declared.labels.Value.{Value}
use Rattle.bg_base.specs.declared.signature.Control.{Control}
use Rattle.bg_base.specs.Bigraph.{IsValid, IsValidUnder}
use Rattle.bg_base.specs.Elementary.{counted}
use Rattle.bg_base.specs.Products.{lean}
use Rattle.bg_base.specs.Signatures.{IsSignature}
use Rattle.bg_base.specs.Translation.{node_numbers}
use Rattle.bg_lists.specs.Lists.{Mem}
use Rattle.bg_lists.proofs.Words.{All-member, All-from_members}
use Rattle.bg_machine.specs.declared.met.Met.{Met}
use Rattle.bg_machine.specs.Calls.{begun, evaluated, valued, met_of}
use Rattle.bg_machine.specs.Whole.{whole}
use Rattle.bg_machine.proofs.Wholes.{edges_differ, as_many_edges, nodes_differ, as_many_nodes}
use Rattle.bg_rules.specs.declared.condition.Condition.{Condition}
use Rattle.bg_rules.specs.declared.predicate.Predicate.{Predicate}
use Rattle.bg_rules.specs.Hosts.{fresh_host}
use Rattle.bg_rules.specs.Reaction.{HostState}
use Rattle.bg_rules.specs.Rules.{RuleParts}
use Rattle.bg_rules.specs.Systems.{IsRuleUnder}
use Rattle.bg_statements.specs.declared.rule_values.ConditionValue.{ConditionValue}
use Rattle.bg_statements.specs.declared.rule_values.RuleValue.{RuleValue}
use Rattle.bg_statements.specs.Defined.{Defined}
use Rattle.bg_statements.specs.Rules.{ConditionExpression, RuleExpression}
use Rattle.bg_statements.specs.RuleValues.{Setting, term_in, whole_value, with_value, conditions_valued, rule_tested, map_or_identity, rule_valued, solid_at}
use Rattle.bg_statements.specs.Sound.{IsRuleRead, IsSound}
use Rattle.bg_statements.specs.Uses.{setting_with, bigraph_used, is_ground, ground_at, host_used, predicate_used, rule_parts, rule_used}
use Rattle.bg_statements.proofs.TestsPassed.{found_member, one_more, solid_same, conditions_passed, rule_passed}
use Rattle.bg_statements.proofs.Turns.{turns_keep}
use Rattle.bg_statements.proofs.UsesAre.{rule_value_is}
use Rattle.bg_terms.specs.declared.shape.Shape.{Shape}
use Rattle.bg_terms.specs.Expressions.{Expression}
use Rattle.bg_terms.specs.Read.{IsRead, shapes_of}
use Rattle.bg_terms.specs.Shapes.{AreOfShapes}
use Rattle.bg_terms.proofs.Fitting.{still_fits}
use Rattle.bg_terms.proofs.InTurn.{read_fits}
use Rattle.bg_terms.proofs.Numbered.{bound, tested}
use Rattle.bg_terms.proofs.Ordered.{in_order}
use Rattle.bg_values.proofs.Bindings.{ok_same}
use Rattle.bg_values.specs.declared.refusal.Cause.TheVariants.{UnknownName}
use Rattle.bg_values.specs.Outcome.{there_or}

-- ---- a signature that goes on

-- a signature, of these controls with some arguments
abbrev pub FitsControls : Defined → List Control → Type 0
FitsControls d signature = IsSignature signature × AreOfShapes (shapes_of d.controls) signature

-- the signature begins with the one before, and fits the controls
pub record GoesOn (d : Defined) (before after : List Control) : Type 0 where
  pub entered : List Control
  pub goes_on : after ≡ before ++ entered
  pub fits : FitsControls d after

-- no control entered
pub stays : (d : Defined) (signature : List Control) → FitsControls d signature → GoesOn d signature signature
stays d signature fits = record { entered = []; goes_on = sym (append-nil signature); fits = fits }

-- some controls entered, and then some more
pub goes_further : (d : Defined) (first second third : List Control) → GoesOn d first second → GoesOn d second third → GoesOn d first third
goes_further d first second third one two =
    record {
      entered = one.entered ++ two.entered;
      goes_on = two.goes_on ∙ ap (λ s. s ++ two.entered) one.goes_on ∙ append_assoc first one.entered two.entered;
      fits = two.fits;
    }

-- what is valid stays valid as the signature goes on
pub valid_later : (d : Defined) (before after : List Control) (big : Big) → GoesOn d before after → IsValidUnder before big → IsValidUnder after big
valid_later d before after big on valid =
    subst (λ s. IsValidUnder s big) (sym on.goes_on) (still_fits before on.entered big valid)

-- a rule that fits still does
pub rule_later : (d : Defined) (before after : List Control) (classes : ℕ) (rule : RuleParts) → GoesOn d before after
    → IsRuleUnder before classes rule → IsRuleUnder after classes rule
rule_later d before after classes rule on under =
    record {
      is_rule = under.is_rule;
      conditions_are = under.conditions_are;
      redex_fits = valid_later d before after rule.redex on under.redex_fits;
      reactum_fits = valid_later d before after rule.reactum on under.reactum_fits;
      conditions_fit = All-from_members (λ (c : Condition). IsValidUnder after c.pattern) rule.conditions
          (λ c m. valid_later d before after c.pattern on (All-member (λ (x : Condition). IsValidUnder before x.pattern) rule.conditions under.conditions_fit m));
      class_below = under.class_below;
    }

-- ---- the bigraph of a whole expression

-- it is valid under each signature under which the bigraph with its idle edges is
pub whole_valid_under : (signature : List Control) (big : Big) → IsValidUnder signature big → IsValidUnder signature (whole big)
whole_valid_under signature big fits =
    let valid : IsValid (lean big) = lean_valid big fits.valid in
    rename_valid_under (lean big) (node_numbers (lean big).nodes) (counted 0 (length (lean big).edges)) valid (as_many_nodes (lean big).nodes)
    (as_many_edges (length (lean big).edges)) (nodes_differ (lean big) valid) (edges_differ (length (lean big).edges)) signature
    (lean_valid_under big fits.valid signature fits)

-- the bigraph is valid under the signature reached
pub record Reaches (d : Defined) (before after : List Control) (big : Big) : Type 0 where
  pub valid : IsValidUnder after big
  pub on : GoesOn d before after

-- the patterns of the conditions are valid under the signature reached
record ConditionsReach (d : Defined) (before : List Control) (found : List ConditionValue × Met) : Type 0 where
  each : (c : ConditionValue) → Mem c found.0 → IsValidUnder found.1.signature c.big
  on : GoesOn d before found.1.signature

-- the sides and the patterns of the conditions are valid under the signature reached
pub record RuleReaches (d : Defined) (before after : List Control) (value : RuleValue) : Type 0 where
  pub redex_fits : IsValidUnder after value.redex
  pub reactum_fits : IsValidUnder after value.reactum
  pub conditions_fit : All (λ (c : Condition). IsValidUnder after c.pattern) value.conditions
  pub on : GoesOn d before after

-- the rule fits the signature reached, and its class is below the number of classes
pub record RuleFits (d : Defined) (before after : List Control) (classes : ℕ) (rule : RuleParts) : Type 0 where
  pub under : IsRuleUnder after classes rule
  pub on : GoesOn d before after

module _ (d : Defined) (sound : IsSound d) (values : List Value) where
  abbrev shapes : List Shape
  shapes = shapes_of d.controls

  abbrev setting : Setting
  setting = setting_with d values

  pub whole_value_fits : (e : Expression) → IsRead shapes e → (met : Met) (v : Big × Met) → FitsControls d met.signature
      → whole_value setting e met ≡ Ok v → Reaches d met.signature v.1.signature v.0
  whole_value_fits e read met v fits is =
      let a = bound (valued (evaluated met (term_in setting e))) (λ (w : Big × Met). Ok (whole w.0, w.1)) v is in
      let b = bound (evaluated met (term_in setting e)) _ a.found a.is in
      let so = read_fits d.controls d.expressions sound.read values e read 0 _ b.found.1 b.found.0 fits.0 fits.1 b.is in
      let order = in_order 0 (term_in setting e) _ b.found.1 b.found.0 b.is in
      let same : ◌≡◌ {A = Big × Met} (whole b.found.0, met_of b.found.1) v = ap (λ (w : Big × Met). (whole w.0, w.1)) (ok_same b.goes_on) ∙ ok_same a.goes_on in
      subst (λ (w : Big × Met). Reaches d met.signature w.1.signature w.0) same
      (record {
        valid = whole_valid_under b.found.1.signature b.found.0 so.valid;
        on = record { entered = order.entered; goes_on = order.goes_on; fits = (so.kept, so.of_shapes) };
      })

  -- ---- conditions

  one_reached : (before : List Control) (c : ConditionExpression) → IsRead shapes c.pattern → (found more : List ConditionValue × Met)
      → ConditionsReach d before found → with_value setting c found ≡ Ok more → ConditionsReach d before more
  one_reached before c read found more so is =
      let b = bound (whole_value setting c.pattern found.1)
      (λ (v : Big × Met). Ok (found.0 ++ (record { positive = c.positive; side = c.side; at = c.at; big = v.0 }) ∷ [], v.1)) more is in
      let last = whole_value_fits c.pattern read found.1 b.found so.on.fits b.is in
      subst (ConditionsReach d before) (ok_same b.goes_on)
      (record {
        each = one_more (λ (x : ConditionValue). IsValidUnder b.found.1.signature x.big) found.0 _
            (λ x m. valid_later d found.1.signature b.found.1.signature x.big last.on (so.each x m)) last.valid;
        on = goes_further d before found.1.signature b.found.1.signature so.on last.on;
      })

  conditions_reach : (conditions : List ConditionExpression) → ((c : ConditionExpression) → Mem c conditions → IsRead shapes c.pattern)
      → (met : Met) (v : List ConditionValue × Met) → FitsControls d met.signature → conditions_valued setting conditions met ≡ Ok v
      → ConditionsReach d met.signature v
  conditions_reach conditions read met v fits is =
      turns_keep (with_value setting) (ConditionsReach d met.signature) conditions (λ c m found more. one_reached met.signature c (read c m) found more)
      ([], met) v (record { each = λ c m. elim m [ ]; on = stays d met.signature fits }) is

  -- ---- rules

  pub rule_reaches : (rule : RuleExpression) → IsRuleRead shapes rule → (met : Met) (v : RuleValue × Met) → FitsControls d met.signature
      → rule_valued setting rule met ≡ Ok v → RuleReaches d met.signature v.1.signature v.0
  rule_reaches rule read met v fits is =
      let a = bound (whole_value setting rule.redex met) _ v is in
      let b = bound (whole_value setting rule.reactum a.found.1) _ v a.goes_on in
      let c = bound (conditions_valued setting rule.conditions b.found.1) _ v b.goes_on in
      let e = bound (rule_tested rule.at a.found.0 b.found.0 (map_or_identity rule.map a.found.0) c.found.0) (λ (value : RuleValue). Ok (value, c.found.1)) v c.goes_on in
      let redex = whole_value_fits rule.redex read.redex met a.found fits a.is in
      let reactum = whole_value_fits rule.reactum read.reactum a.found.1 b.found redex.on.fits b.is in
      let conditions = conditions_reach rule.conditions read.conditions b.found.1 c.found reactum.on.fits c.is in
      let passed = rule_passed rule.at a.found.0 b.found.0 (map_or_identity rule.map a.found.0) c.found.0 e.found e.is in
      let last = c.found.1.signature in
      let to_last = goes_further d a.found.1.signature b.found.1.signature last reactum.on conditions.on in
      subst (λ (w : RuleValue × Met). RuleReaches d met.signature w.1.signature w.0) (ok_same e.goes_on)
      (record {
        redex_fits = subst (IsValidUnder last) passed.sides.same (valid_later d a.found.1.signature last a.found.0 to_last redex.valid);
        reactum_fits = subst (IsValidUnder last) passed.reactum_same (valid_later d b.found.1.signature last b.found.0 conditions.on reactum.valid);
        conditions_fit = All-from_members (λ (x : Condition). IsValidUnder last x.pattern) e.found.conditions
            (conditions_passed (IsValidUnder last) c.found.0 e.found.conditions (λ x m solid. conditions.each x m) passed.tested);
        on = goes_further d met.signature a.found.1.signature last redex.on to_last;
      })

-- ---- uses

module _ (d : Defined) (sound : IsSound d) (at number : ℕ) where
  -- a bigraph
  pub bigraph_used_fits : (values : List Value) (signature : List Control) (v : Big × List Control) → FitsControls d signature
      → bigraph_used d at number values signature ≡ Ok v → Reaches d signature v.1 v.0
  bigraph_used_fits values signature v fits is =
      let a = bound (there_or UnknownName at (slice_get d.expressions number)) _ v is in
      let b = bound (whole_value (setting_with d values) a.found (begun signature)) (λ (w : Big × Met). Ok (w.0, w.1.signature)) v a.goes_on in
      let read = sound.read.each a.found (found_member UnknownName at d.expressions number a.found a.is) in
      subst (λ (w : Big × List Control). Reaches d signature w.1 w.0) (ok_same b.goes_on)
      (whole_value_fits d sound values a.found read (begun signature) b.found fits b.is)

  -- a host
  pub host_used_fits : (values : List Value) (signature : List Control) (v : HostState × List Control) → FitsControls d signature
      → host_used d at number values signature ≡ Ok v → Reaches d signature v.1 v.0.big
  host_used_fits values signature v fits is =
      let a = bound (bigraph_used d at number values signature) _ v is in
      let b = bound (ground_at at a.found.0) (λ (host : HostState). Ok (host, a.found.1)) v a.goes_on in
      let same : fresh_host a.found.0 ≡ b.found = ok_same (tested (is_ground a.found.0) (Ok (fresh_host a.found.0)) _ b.found b.is) in
      subst (λ (w : HostState × List Control). Reaches d signature w.1 w.0.big) (ok_same b.goes_on)
      (subst (λ (host : HostState). Reaches d signature a.found.1 host.big) same (bigraph_used_fits values signature a.found fits a.is))

  -- a predicate
  pub predicate_used_fits : (label : Label) (signature : List Control) (v : Predicate × List Control) → FitsControls d signature
      → predicate_used d at number label signature ≡ Ok v → Reaches d signature v.1 v.0.pattern
  predicate_used_fits label signature v fits is =
      let a = bound (bigraph_used d at number label.args signature) _ v is in
      let b = bound (solid_at at a.found.0) (λ (big : Big). Ok (record { label = label; pattern = big }, a.found.1)) v a.goes_on in
      let so = solid_same at a.found.0 b.found b.is in
      subst (λ (w : Predicate × List Control). Reaches d signature w.1 w.0.pattern) (ok_same b.goes_on)
      (subst (λ (big : Big). Reaches d signature a.found.1 big) so.same (bigraph_used_fits label.args signature a.found fits a.is))

  -- a rule
  pub rule_used_fits : (label : Label) (class classes : ℕ) (signature : List Control) (v : RuleParts × List Control) → FitsControls d signature
      → class < classes → rule_used d at number label class signature ≡ Ok v → RuleFits d signature v.1 classes v.0
  rule_used_fits label class classes signature v fits below is =
      let a = bound (there_or UnknownName at (slice_get d.rule_expressions number)) _ v is in
      let b = bound (rule_valued (setting_with d label.args) a.found (begun signature))
      (λ (w : RuleValue × Met). Ok (rule_parts label class w.0, w.1.signature)) v a.goes_on in
      let read = sound.rules_read a.found (found_member UnknownName at d.rule_expressions number a.found a.is) in
      let so = rule_reaches d sound label.args a.found read (begun signature) b.found fits b.is in
      let kept = rule_value_is (setting_with d label.args) a.found (begun signature) b.found b.is in
      subst (λ (w : RuleParts × List Control). RuleFits d signature w.1 classes w.0) (ok_same b.goes_on)
      (record {
        under = record {
          is_rule = record { sides = kept.sides; reactum_numbered = kept.reactum_numbered };
          conditions_are = kept.conditions_patterns;
          redex_fits = so.redex_fits;
          reactum_fits = so.reactum_fits;
          conditions_fit = so.conditions_fit;
          class_below = below;
        };
        on = so.on;
      })
