-- The verdict on a step.
use Rattle.std.proofs.Common.{◌≡◌, ℕ, ◌<◌, ◌≤◌, List, [], ◌∷◌, length, All, refl, sym, ap, subst, ◌∙◌, arith, inl, inr}
use Rattle.bg_lists.specs.Lists.{Mem, here, At}
use Rattle.bg_lists.proofs.Places.{Mem-from_At, At-one, At-below}
use Rattle.bg_lists.proofs.Words.{All-member}
use Rattle.bg_base.specs.declared.big.Big.{Big}
use Rattle.bg_base.specs.declared.history.Step.{Step}
use Rattle.bg_rules.specs.declared.condition.Condition.{Condition}
use Rattle.bg_rules.specs.Decomposition.{Occurs}
use Rattle.bg_rules.specs.Hosts.{IsHost}
use Rattle.bg_rules.specs.Reaction.{HostState}
use Rattle.bg_rules.specs.Rules.{RuleParts}
use Rattle.bg_cond.specs.Sides.{HoldsInHost, IsSought, LooksForNodes}
use Rattle.bg_cond.specs.Steps.{IsEnabledStep, NoneHigher, IsLegal, AreFirstLegal}
use Rattle.bg_cond.specs.Verdicts.{IsNoOccurrence, IsFirstFailing, IsHigher, IsFirstUnmet, IsEnabledThere, HasClass}
use Rattle.bg_cond.proofs.DrawnRuns.{none_quiet}
use Rattle.bg_cond.proofs.HostConditions.{holds_in_host, holds_in_pieces, enabled_from_host}

module _ (host : HostState) (rules : List RuleParts) (step : Step) where
  pub judged_failing : (rule : RuleParts) (big : Big) (images : List ℕ) (conditions : List Condition) (number : ℕ) → IsHost host → All LooksForNodes rules
      → At rule step.rule rules → Occurs host.big rule.redex step.map → big ≡ host.big → images ≡ step.map → conditions ≡ rule.conditions
      → IsFirstUnmet big images conditions number → IsFirstFailing host rules step number
  judged_failing rule big images conditions number is_host all at o e f g unmet =
      let looks = All-member LooksForNodes rules all (Mem-from_At at) in
      let u : IsFirstUnmet host.big step.map rule.conditions number
      = subst (λ (b : Big). IsFirstUnmet b step.map rule.conditions number) e
      (subst (λ ns. IsFirstUnmet big ns rule.conditions number) f (subst (λ cs. IsFirstUnmet big images cs number) g unmet)) in
      let sought = λ (condition : Condition) (m : Mem condition rule.conditions).
      All-member (λ (c : Condition). IsSought c.pattern) rule.conditions looks.sought m in
      record {
        rule = rule;
        there = at;
        context = o.context;
        edges = o.edges;
        parameter = o.parameter;
        decomposes = o.decomposes;
        condition = u.condition;
        at = u.at;
        fails = λ h. u.fails (holds_in_host host rule.redex step.map is_host looks.redex_is o.context o.edges o.parameter o.decomposes u.condition
            (sought u.condition (Mem-from_At u.at)) h);
        before = λ earlier other a less. holds_in_pieces host rule.redex step.map is_host looks.redex_is o.context o.edges o.parameter o.decomposes other
            (sought other (Mem-from_At a)) (u.before earlier other a less);
      }

  pub judged_enabled : (rule : RuleParts) (class : ℕ) (big : Big) (images : List ℕ) (conditions : List Condition) → IsHost host → All LooksForNodes rules
      → At rule step.rule rules → class ≡ rule.class → Occurs host.big rule.redex step.map → big ≡ host.big → images ≡ step.map → conditions ≡ rule.conditions
      → All (HoldsInHost big images) conditions → IsEnabledStep host rules class step
  judged_enabled rule class big images conditions is_host all at same o e f g held =
      let looks = All-member LooksForNodes rules all (Mem-from_At at) in
      let hold : All (HoldsInHost host.big step.map) rule.conditions
      = subst (λ (b : Big). All (HoldsInHost b step.map) rule.conditions) e
      (subst (λ ns. All (HoldsInHost big ns) rule.conditions) f (subst (λ cs. All (HoldsInHost big images) cs) g held)) in
      record { rule = rule; there = at; of_class = sym same; enabled = enabled_from_host host rule step.map is_host looks o hold }

  -- no class comes before the first
  pub judged_top : (class : ℕ) → class ≡ 0 → IsEnabledStep host rules class step → IsLegal host rules step
  judged_top class none enabled =
      record { class = class; enabled = enabled; highest = record { none_higher = λ rule nodes m e. omega (arith, none) } }

  -- ---- beside the first legal step

  module _ (enabled : IsEnabledThere host rules step) where
    -- where a step is enabled, some step is legal
    pub judged_some : AreFirstLegal 1 host rules [] → ⊥
    judged_some are =
        let quiet = none_quiet host rules (record {
          none = λ other legal. elim (are.others_later other legal) [
            | inl m ↦ elim m [ ]
            | inr full ↦ (let none = full.0 in omega (arith, none))
          ];
        }) in
        quiet.none enabled.1.rule step.map (Mem-from_At enabled.1.there) enabled.1.enabled

    module _ (other : Step) (first : AreFirstLegal 1 host rules (other ∷ [])) where
      legal : IsLegal host rules other
      legal = first.wanted other (here refl)

      pub other_there : other.rule < length rules
      other_there = At-below legal.enabled.there

      own_class : (class : ℕ) → HasClass rules step.rule class → class ≡ enabled.0
      own_class class has = has.2 ∙ ap (λ (r : RuleParts). r.class) (At-one has.1 enabled.1.there) ∙ enabled.1.of_class

      first_class : (class : ℕ) → HasClass rules other.rule class → class ≡ legal.class
      first_class class has = has.2 ∙ ap (λ (r : RuleParts). r.class) (At-one has.1 legal.enabled.there) ∙ legal.enabled.of_class

      pub judged_higher : (class higher : ℕ) → HasClass rules step.rule class → HasClass rules other.rule higher → higher < class → IsHigher host rules step other
      judged_higher class higher own its less =
          let one = own_class class own in
          let two = first_class higher its in
          record { class = enabled.0; enabled = enabled.1; higher = legal.class; of_higher = legal.enabled; before = omega (arith, one, two, less); first = first }

      pub judged_highest : (class higher : ℕ) → HasClass rules step.rule class → HasClass rules other.rule higher → class ≤ higher → IsLegal host rules step
      judged_highest class higher own its more =
          let one = own_class class own in
          let two = first_class higher its in
          let up = legal.highest.none_higher enabled.1.rule step.map (Mem-from_At enabled.1.there) enabled.1.enabled in
          let of = enabled.1.of_class in
          let same : legal.class ≡ enabled.0 = omega (arith, one, two, more, up, of) in
          record { class = enabled.0; enabled = enabled.1; highest = subst (λ c. NoneHigher host rules c) same legal.highest }

  pub judged_absent : (rule : RuleParts) (big pattern : Big) (images : List ℕ) → At rule step.rule rules → big ≡ host.big → pattern ≡ rule.redex
      → images ≡ step.map → (Occurs big pattern images → ⊥) → IsNoOccurrence host rules step
  judged_absent rule big pattern images at e f g none =
      record {
        rule = rule;
        there = at;
        none = λ o. none (subst (λ (b : Big). Occurs b pattern images) (sym e) (subst (λ (p : Big). Occurs host.big p images) (sym f)
            (subst (λ ns. Occurs host.big rule.redex ns) (sym g) o)));
      }
