-- What a plan that is carried out makes of an indexed host.
use Rattle.std.proofs.Common.{◌≡◌, ◌↔◌, ℕ, ◌<◌, List, length, nat_cmp, sym, ap, subst, ◌∙◌}
use Rattle.std.specs.List.Sorted.{IsStrictlySortedBy}
use Rattle.bg_lists.specs.Lists.{Mem}
use Rattle.bg_lists.proofs.Places.{At-below}
use Rattle.bg_rewriting.specs.Touching.{IsTouched}
use Rattle.bg_rules.specs.Decomposition.{Occurs}
use Rattle.bg_rules.specs.Hosts.{IsHost}
use Rattle.bg_rules.specs.Reaction.{HostState, Reacts}
use Rattle.bg_rules.specs.Rules.{RuleParts, IsRule}
use Rattle.bg_rules.specs.Limits.{IsWithinLimits}
use Rattle.bg_index.specs.declared.causes.Causes.{Causes}
use Rattle.bg_index.specs.declared.entries.Index.{Index}
use Rattle.bg_index.specs.declared.plans.Plan.{Plan}
use Rattle.bg_index.specs.Causes.{AreCauses}
use Rattle.bg_index.specs.Commits.{IsReady}
use Rattle.bg_index.specs.Indexed.{host_of, IsIndex, IsIndexOf}
use Rattle.bg_index.specs.Noting.{noted}
use Rattle.bg_index.specs.Plans.{host_planned, moved, new_rows, IsCarriedOut, IsReactionPlan}
use Rattle.bg_index.specs.Telling.{names_bundled, IsPlanned, IsToldBy}
use Rattle.bg_index.proofs.CauseLaws.{bundled_name, planned_causes}
use Rattle.bg_index.proofs.PlanLaws.{planned_reacts, planned_host, carried_host, carried_step}
use Rattle.bg_index.proofs.ReadyLaws.{plan_ready}
use Rattle.bg_index.proofs.StepLaws.{step_indexed}
use Rattle.bg_index.proofs.TouchedLaws.{planned_touched}

module _ (host : HostState) (rule : RuleParts) (nodes : List ℕ) (plan : Plan) (is_host : IsHost host) (is_rule : IsRule rule)
    (occurs : Occurs host.big rule.redex nodes) (is : IsReactionPlan host rule nodes plan) where
  pub plan_reacts : Reacts host rule nodes (host_planned host plan)
  plan_reacts = planned_reacts host rule nodes is.boundary plan is_host is_rule occurs is.is_boundary is.is_plan

  pub plan_touches : (changed : List ℕ) → IsStrictlySortedBy nat_cmp changed → ((node : ℕ) → Mem node changed ↔ Mem node (noted host.big plan))
      → IsTouched host.big (host_planned host plan).big plan.gone.items changed
  plan_touches changed up are =
      planned_touched host rule nodes is.boundary plan is_host is_rule occurs is.is_boundary is.is_plan is.within changed up are

  pub is_planned : IsPlanned host plan
  is_planned = record { rule = rule; nodes = nodes; is_rule = is_rule; occurs = occurs; is_plan = is }

  -- the positions of outer names in the plan are below their number
  pub names_there : (at : ℕ) → Mem at (names_bundled plan.bundles.items) → at < length host.big.outer
  names_there at m =
      At-below (bundled_name host rule nodes plan.gone.items plan.idle.items (new_rows plan) plan.bundles.items is.is_plan.bundles_are at m).1

  pub gone_up : IsStrictlySortedBy nat_cmp plan.gone.items
  gone_up = is.is_plan.gone_ascends

  -- the host that is planned
  module _ (new : HostState) (done : new ≡ host_planned host plan) where
    pub done_reacts : Reacts host rule nodes new
    done_reacts = subst (Reacts host rule nodes) (sym done) plan_reacts

    pub done_within : IsWithinLimits new
    done_within = subst IsWithinLimits (sym done) is.within

    pub done_touched : (gone changed : List ℕ) → gone ≡ plan.gone.items → IsStrictlySortedBy nat_cmp changed
        → ((node : ℕ) → Mem node changed ↔ Mem node (noted host.big plan)) → IsTouched host.big new.big gone changed
    done_touched gone changed same_gone up are =
        subst (λ (h : HostState). IsTouched host.big h.big gone changed) (sym done)
        (subst (λ nodes_gone. IsTouched host.big (host_planned host plan).big nodes_gone changed) (sym same_gone) (plan_touches changed up are))

    pub done_causes : (causes : Causes) → IsToldBy host plan causes → AreCauses host.big new.big causes
    done_causes causes told =
        subst (λ (h : HostState). AreCauses host.big h.big causes) (sym done)
        (planned_causes host rule nodes is.boundary plan is_host is_rule occurs is.is_boundary is.is_plan is.within causes told)

  module _ (mid : Index) (is_index : IsIndex mid) (same : host_of mid ≡ host) where
    is_mid : IsReactionPlan (host_of mid) rule nodes plan
    is_mid = subst (λ (h : HostState). IsReactionPlan h rule nodes plan) (sym same) is

    mid_occurs : Occurs (host_of mid).big rule.redex nodes
    mid_occurs = subst (λ (h : HostState). Occurs h.big rule.redex nodes) (sym same) occurs

    -- the plan can be carried out
    pub can_be_done : IsReady mid plan
    can_be_done = plan_ready mid plan rule nodes is_mid.boundary is_index is_mid.is_plan

    module _ (new : Index) (done : IsCarriedOut mid plan new) where
      pub done_host : host_of new ≡ host_planned host plan
      done_host = carried_host mid new rule nodes is_mid.boundary plan is_index is_mid.is_plan done ∙ ap (λ (h : HostState). host_planned h plan) same

      pub done_index : IsIndex new
      done_index =
          subst (λ (h : HostState). IsIndexOf h new) (sym (carried_host mid new rule nodes is_mid.boundary plan is_index is_mid.is_plan done))
          (step_indexed (host_of mid) rule nodes is_mid.boundary (host_planned (host_of mid) plan) is_index.is_host.numbered is_rule is_mid.is_boundary
          (planned_reacts (host_of mid) rule nodes is_mid.boundary plan is_index.is_host is_rule mid_occurs is_mid.is_boundary is_mid.is_plan)
          (planned_host (host_of mid) rule nodes is_mid.boundary plan is_index.is_host is_rule mid_occurs is_mid.is_boundary is_mid.is_plan is_mid.within)
          plan.gone.items (moved plan.moves.items) (new_rows plan) new
          (carried_step mid new rule nodes is_mid.boundary plan is_index is_mid.is_plan done))
