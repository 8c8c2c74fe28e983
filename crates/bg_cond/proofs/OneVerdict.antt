-- No two verdicts are right of one step at one host.
use Rattle.std.proofs.Common.{◌≡◌, ℕ, ◌<◌, ◌≤◌, List, [], ◌∷◌, length, All, refl, sym, ap, subst, arith, inl, inr}
use Rattle.std.proofs.lemmas.Bool.{cases_lt}
use Rattle.bg_lists.specs.Lists.{At}
use Rattle.bg_lists.proofs.Places.{At-one, At-below, Mem-from_At}
use Rattle.bg_lists.proofs.Words.{All-member}
use Rattle.bg_base.specs.declared.big.Big.{Big}
use Rattle.bg_base.specs.declared.history.Step.{Step}
use Rattle.bg_rules.specs.declared.condition.Condition.{Condition}
use Rattle.bg_rules.specs.Decomposition.{Decomposes, Occurs}
use Rattle.bg_rules.specs.Hosts.{IsHost}
use Rattle.bg_rules.specs.Reaction.{HostState}
use Rattle.bg_rules.specs.Rules.{RuleParts, IsRule}
use Rattle.bg_rules.proofs.Occurrences.{one_decomposition}
use Rattle.bg_cond.specs.Conditions.{Holds, IsEnabled}
use Rattle.bg_cond.specs.Steps.{IsEnabledStep, IsLegal}
use Rattle.bg_cond.specs.declared.verdict.Verdict.{Verdict}
use Rattle.bg_cond.specs.declared.verdict.Verdict.TheVariants.{Legal, NoRule, NotEmbedding, ConditionFails, HigherClass}
use Rattle.bg_cond.specs.Verdicts.{IsNoOccurrence, IsFirstFailing, IsHigher, IsJudged}
use Rattle.bg_cond.proofs.OneList.{first_one}

module _ (host : HostState) (rules : List RuleParts) (step : Step) (is_host : IsHost host) (are : All IsRule rules) where
  -- what holds at one decomposition holds at each other
  holds_there : (rule : RuleParts) → At rule step.rule rules → (context other_context : Big) (edges other_edges : List ℕ) (parameter other_parameter : Big)
      → Decomposes host.big rule.redex step.map context edges parameter → Decomposes host.big rule.redex step.map other_context other_edges other_parameter
      → (condition : Condition) → Holds host context parameter condition → Holds host other_context other_parameter condition
  holds_there rule at context other_context edges other_edges parameter other_parameter d e condition h =
      let is_rule = All-member IsRule rules are (Mem-from_At at) in
      let one = one_decomposition host.big rule.redex is_rule.sides.is_pattern is_host.fits.ground step.map context other_context edges other_edges parameter
      other_parameter d e in
      subst (λ (c : Big). Holds host c other_parameter condition) one.0 (subst (λ (p : Big). Holds host context p condition) one.2 h)

  -- ---- an enabled step

  no_rule_enabled : {class : ℕ} → length rules ≤ step.rule → IsEnabledStep host rules class step → ⊥
  no_rule_enabled none enabled = let below = At-below enabled.there in omega (arith, none, below)

  none_enabled : {class : ℕ} → IsNoOccurrence host rules step → IsEnabledStep host rules class step → ⊥
  none_enabled none enabled =
      let e = enabled.enabled in
      let o : Occurs host.big enabled.rule.redex step.map
      = record { context = e.context; edges = e.edges; parameter = e.parameter; decomposes = e.decomposes } in
      none.none (subst (λ (r : RuleParts). Occurs host.big r.redex step.map) (At-one enabled.there none.there) o)

  failing_enabled : {class number : ℕ} → IsFirstFailing host rules step number → IsEnabledStep host rules class step → ⊥
  failing_enabled failing enabled =
      let e : IsEnabled host failing.rule step.map
      = subst (λ (r : RuleParts). IsEnabled host r step.map) (At-one enabled.there failing.there) enabled.enabled in
      failing.fails (holds_there failing.rule failing.there e.context failing.context e.edges failing.edges e.parameter failing.parameter e.decomposes
      failing.decomposes failing.condition
      (All-member (Holds host e.context e.parameter) failing.rule.conditions e.hold (Mem-from_At failing.at)))

  higher_legal : {other : Step} → IsHigher host rules step other → IsLegal host rules step → ⊥
  higher_legal higher legal =
      let own = higher.of_higher in
      let up = legal.highest.none_higher own.rule _ (Mem-from_At own.there) own.enabled in
      let class = own.of_class in
      let same = ap (λ (r : RuleParts). r.class) (At-one legal.enabled.there higher.enabled.there) in
      let one = legal.enabled.of_class in
      let two = higher.enabled.of_class in
      let before = higher.before in
      omega (arith, up, class, same, one, two, before)

  -- ---- a step that is not enabled

  no_rule_none : length rules ≤ step.rule → IsNoOccurrence host rules step → ⊥
  no_rule_none few none = let below = At-below none.there in omega (arith, few, below)

  no_rule_failing : {number : ℕ} → length rules ≤ step.rule → IsFirstFailing host rules step number → ⊥
  no_rule_failing few failing = let below = At-below failing.there in omega (arith, few, below)

  none_failing : {number : ℕ} → IsNoOccurrence host rules step → IsFirstFailing host rules step number → ⊥
  none_failing none failing =
      let o : Occurs host.big failing.rule.redex step.map
      = record { context = failing.context; edges = failing.edges; parameter = failing.parameter; decomposes = failing.decomposes } in
      none.none (subst (λ (r : RuleParts). Occurs host.big r.redex step.map) (At-one failing.there none.there) o)

  -- ---- the first condition that fails, and the first legal step

  not_before : (number other : ℕ) → IsFirstFailing host rules step number → IsFirstFailing host rules step other → number < other → ⊥
  not_before number other one two less =
      let same = At-one two.there one.there in
      let d : Decomposes host.big one.rule.redex step.map two.context two.edges two.parameter
      = subst (λ (r : RuleParts). Decomposes host.big r.redex step.map two.context two.edges two.parameter) same two.decomposes in
      one.fails (holds_there one.rule one.there two.context one.context two.edges one.edges two.parameter one.parameter d one.decomposes one.condition
      (two.before number one.condition (subst (λ (r : RuleParts). At one.condition number r.conditions) (sym same) one.at) less))

  one_number : (number other : ℕ) → IsFirstFailing host rules step number → IsFirstFailing host rules step other → number ≡ other
  one_number number other one two =
      elim (cases_lt number other) [
        | inl less ↦ absurd (not_before number other one two less)
        | inr more ↦ elim (cases_lt other number) [
          | inl less ↦ absurd (not_before other number two one less)
          | inr most ↦ omega (arith, more, most)
        ]
      ]

  one_first : (first other : Step) → IsHigher host rules step first → IsHigher host rules step other → first ≡ other
  one_first first other one two =
      let same : first ∷ [] ≡ other ∷ [] = first_one 1 (IsLegal host rules) (first ∷ []) (other ∷ []) one.first two.first in cc

  -- ---- all together

  pub one_verdict : (one other : Verdict) → IsJudged host rules step one → IsJudged host rules step other → one ≡ other
  one_verdict Legal Legal j k = refl
  one_verdict Legal NoRule j k = absurd (no_rule_enabled k j.enabled)
  one_verdict Legal NotEmbedding j k = absurd (none_enabled k j.enabled)
  one_verdict Legal (ConditionFails number) j k = absurd (failing_enabled k j.enabled)
  one_verdict Legal (HigherClass first) j k = absurd (higher_legal k j)
  one_verdict NoRule Legal j k = absurd (no_rule_enabled j k.enabled)
  one_verdict NoRule NoRule j k = refl
  one_verdict NoRule NotEmbedding j k = absurd (no_rule_none j k)
  one_verdict NoRule (ConditionFails number) j k = absurd (no_rule_failing j k)
  one_verdict NoRule (HigherClass first) j k = absurd (no_rule_enabled j k.enabled)
  one_verdict NotEmbedding Legal j k = absurd (none_enabled j k.enabled)
  one_verdict NotEmbedding NoRule j k = absurd (no_rule_none k j)
  one_verdict NotEmbedding NotEmbedding j k = refl
  one_verdict NotEmbedding (ConditionFails number) j k = absurd (none_failing j k)
  one_verdict NotEmbedding (HigherClass first) j k = absurd (none_enabled j k.enabled)
  one_verdict (ConditionFails number) Legal j k = absurd (failing_enabled j k.enabled)
  one_verdict (ConditionFails number) NoRule j k = absurd (no_rule_failing k j)
  one_verdict (ConditionFails number) NotEmbedding j k = absurd (none_failing k j)
  one_verdict (ConditionFails number) (ConditionFails other) j k = ap (λ n. ConditionFails n) (one_number number other j k)
  one_verdict (ConditionFails number) (HigherClass first) j k = absurd (failing_enabled j k.enabled)
  one_verdict (HigherClass first) Legal j k = absurd (higher_legal j k)
  one_verdict (HigherClass first) NoRule j k = absurd (no_rule_enabled k j.enabled)
  one_verdict (HigherClass first) NotEmbedding j k = absurd (none_enabled k j.enabled)
  one_verdict (HigherClass first) (ConditionFails number) j k = absurd (failing_enabled k j.enabled)
  one_verdict (HigherClass first) (HigherClass other) j k = ap (λ s. HigherClass s) (one_first first other j k)
