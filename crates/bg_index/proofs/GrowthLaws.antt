-- Where a host has no room for what a reaction makes of it, the reaction passes a limit.
use Rattle.std.proofs.Common.{ℕ, ◌+◌, ◌<◌, ◌≤◌, [], List, length, filter, nat_cmp, arith}
use Rattle.std.specs.List.Sorted.{IsStrictlySortedBy}
use Rattle.bg_base.specs.declared.names.Link.TheVariants.{Edge}
use Rattle.bg_base.specs.Limits.{most_host_edges}
use Rattle.bg_base.specs.Products.{has_point}
use Rattle.bg_rewriting.specs.Boundaries.{Boundary, IsBoundary}
use Rattle.bg_rewriting.specs.Making.{AreDropped, AreIdle}
use Rattle.bg_rewriting.specs.Rewriting.{late_count}
use Rattle.bg_rewriting.proofs.Reacted.{count, edges_many}
use Rattle.bg_rewriting.proofs.Rewritten.{rewritten}
use Rattle.bg_rules.specs.Decomposition.{Occurs}
use Rattle.bg_rules.specs.Hosts.{IsHost}
use Rattle.bg_rules.specs.Limits.{IsWithinLimits, PassesALimit}
use Rattle.bg_rules.specs.Reaction.{HostState, Reacts}
use Rattle.bg_rules.specs.Rules.{RuleParts, IsRule}
use Rattle.bg_rules.proofs.Reactions.{some_result}
use Rattle.bg_index.specs.declared.plans.Plan.{Plan}
use Rattle.bg_index.specs.Growth.{HasNumbers}
use Rattle.bg_index.specs.Plans.{host_planned, IsPlan}
use Rattle.bg_index.proofs.PlanLaws.{planned_reacts}

module _ (host : HostState) (rule : RuleParts) (nodes : List ℕ) (boundary : Boundary) (is_host : IsHost host) (is_rule : IsRule rule)
    (occurs : Occurs host.big rule.redex nodes) (is_boundary : IsBoundary host.big rule nodes boundary) where
  -- what passes a limit once it is within them no more
  passing : ((after : HostState) → Reacts host rule nodes after → IsWithinLimits after → ⊥) → PassesALimit host rule nodes
  passing fails =
      let w = some_result host rule nodes is_host.numbered is_rule occurs in
      record { after = w.0; reacts = w.1; passes = fails w.0 w.1 }

  pub numbers_pass : (gone : List ℕ) → IsStrictlySortedBy nat_cmp gone → AreDropped host.big rule nodes gone
      → (HasNumbers host rule (late_count boundary.parts [] rule.map) gone → ⊥) → PassesALimit host rule nodes
  numbers_pass gone up are none =
      passing (λ after r within.
      let many = count host rule nodes boundary after is_host.numbered is_rule is_boundary r gone are up in
      let is = rewritten host rule nodes is_host.numbered is_rule boundary is_boundary after r in
      let next_node = is.next_node in
      let next_edge = is.next_edge in
      let few = within.few_nodes in
      let small = within.counters_small.next_node_small in
      let low = within.counters_small.next_edge_small in
      none (record {
        few_nodes = omega (arith, many, few);
        next_node_small = omega (arith, next_node, small);
        next_edge_small = omega (arith, next_edge, low);
      }))

  pub edges_pass : (idle : List ℕ) → IsStrictlySortedBy nat_cmp idle → AreIdle host.big rule nodes boundary idle
      → most_host_edges + length idle < length host.big.edges + length (filter (λ own. has_point rule.reactum (Edge own)) rule.reactum.edges)
      → PassesALimit host rule nodes
  edges_pass idle up are more =
      passing (λ after r within.
      let many = edges_many host rule nodes boundary after is_host.numbered is_rule is_boundary r idle are up in
      let few = within.few_edges in
      absurd (omega (arith, many, few, more)))

  pub planned_within : (plan : Plan) → IsPlan host rule nodes boundary plan → HasNumbers host rule (late_count boundary.parts [] rule.map) plan.gone.items
      → length host.big.edges + length (filter (λ own. has_point rule.reactum (Edge own)) rule.reactum.edges) ≤ most_host_edges + length plan.idle.items
      → IsWithinLimits (host_planned host plan)
  planned_within plan is_plan fits few =
      let r = planned_reacts host rule nodes boundary plan is_host is_rule occurs is_boundary is_plan in
      let many = count host rule nodes boundary (host_planned host plan) is_host.numbered is_rule is_boundary r plan.gone.items is_plan.gone_are is_plan.gone_ascends in
      let edges = edges_many host rule nodes boundary (host_planned host plan) is_host.numbered is_rule is_boundary r plan.idle.items is_plan.idle_are is_plan.idle_ascends in
      let room = fits.few_nodes in
      let next_node = is_plan.next_node in
      let next_edge = is_plan.next_edge in
      let small = fits.next_node_small in
      let low = fits.next_edge_small in
      record {
        few_nodes = omega (arith, many, room);
        few_edges = omega (arith, edges, few);
        counters_small = record { next_node_small = omega (arith, next_node, small); next_edge_small = omega (arith, next_edge, low) };
      }
