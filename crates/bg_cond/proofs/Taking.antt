-- A legal step that is taken.
use Rattle.std.proofs.Common.{◌≡◌, ℕ, ◌<◌, List, length, get_or, Result, Ok, Err, OnOk, sym, subst}
use Rattle.bg_lists.specs.Lists.{At}
use Rattle.bg_lists.proofs.Places.{At-one, At-below}
use Rattle.bg_base.specs.declared.history.Step.{Step}
use Rattle.bg_rules.specs.Decomposition.{Occurs}
use Rattle.bg_rules.specs.Limits.{IsWithinLimits, PassesALimit}
use Rattle.bg_rules.specs.Reaction.{HostState, Reacts}
use Rattle.bg_rules.specs.Rules.{RuleParts}
use Rattle.bg_cond.specs.Steps.{IsLegal, LeadsTo, IsTooLarge}
use Rattle.bg_cond.proofs.Upto.{item_at}

module _ {host : HostState} {rules : List RuleParts} {step : Step} (legal : IsLegal host rules step) where
  pub rule_there : (list : List RuleParts) → list ≡ rules → step.rule < length list
  rule_there list e = subst (λ (l : List RuleParts). step.rule < length l) (sym e) (At-below legal.enabled.there)

  module _ {rule : RuleParts} (list : List RuleParts) (e : list ≡ rules) (is : rule ≡ get_or list step.rule rule) where
    rule_at : At rule step.rule rules
    rule_at = subst (λ (l : List RuleParts). At rule step.rule l) e (item_at list step.rule rule (rule_there list e) is)

    pub step_occurs : {map : List ℕ} → map ≡ step.map → Occurs host.big rule.redex map
    step_occurs f =
        let enabled = legal.enabled.enabled in
        let there : Occurs host.big legal.enabled.rule.redex step.map = record { context = enabled.context; edges = enabled.edges; parameter = enabled.parameter; decomposes = enabled.decomposes } in
        subst (λ (nodes : List ℕ). Occurs host.big rule.redex nodes) (sym f)
        (subst (λ (r : RuleParts). Occurs host.big r.redex step.map) (At-one legal.enabled.there rule_at) there)

    pub step_leads : {A E : Type 0} {map : List ℕ} (next : HostState) (result : Result A E) → map ≡ step.map
        → OnOk result (Reacts host rule map next) → OnOk result (IsWithinLimits next) → OnOk result (LeadsTo host rules step next)
    step_leads next (Ok a) f r within = record {
      rule = rule;
      there = rule_at;
      reacts = subst (λ (nodes : List ℕ). Reacts host rule nodes next) f r;
      within = within;
    }
    step_leads next (Err fault) f r within = tt

    pub step_too_large : {map : List ℕ} → map ≡ step.map → PassesALimit host rule map → IsTooLarge host rules step
    step_too_large f passes = record {
      rule = rule;
      there = rule_at;
      legal = legal;
      passes = subst (λ (nodes : List ℕ). PassesALimit host rule nodes) f passes;
    }
