-- The parts of a plan make a plan.
use Rattle.std.proofs.Common.{◌≡◌, ◌↔◌, ℕ, ◌+◌, ◌<◌, ◌≤◌, ◌^◌, [], List, length, filter, nat_cmp, sym, ap, subst, arith}
use Rattle.std.specs.List.Sorted.{IsStrictlySortedBy}
use Rattle.bg_lists.specs.Lists.{Mem}
use Rattle.bg_lists.proofs.Words.{length-filter}
use Rattle.bg_base.specs.declared.names.Link.TheVariants.{Edge}
use Rattle.bg_base.specs.Limits.{most_host_edges, largest_counter}
use Rattle.bg_base.specs.declared.big.NodeRow.{NodeRow}
use Rattle.bg_base.specs.Products.{has_point}
use Rattle.bg_rewriting.specs.Making.{AreDropped, AreIdle}
use Rattle.bg_rewriting.specs.Rewriting.{late_count}
use Rattle.bg_rewriting.specs.Touching.{IsListed}
use Rattle.bg_rewriting.proofs.Decided.{dropped_is}
use Rattle.bg_rules.specs.Limits.{PassesALimit}
use Rattle.bg_rules.specs.Reaction.{HostState}
use Rattle.bg_rules.specs.Rules.{RuleParts}
use Rattle.bg_index.specs.declared.entries.EdgeEntry.{EdgeEntry}
use Rattle.bg_index.specs.declared.plans.Plan.{Plan}
use Rattle.bg_index.specs.declared.reading.Reading.{Reading}
use Rattle.bg_index.specs.Growth.{HasNumbers}
use Rattle.bg_index.specs.Plans.{IsRead, AreBundles, AreFilled, AreMoves, AreNests, AreNewRows, AreUsed, IsPlan, IsReactionPlan, rows_after, new_rows}
use Rattle.bg_index.specs.Readings.{boundary_of}
use Rattle.bg_index.proofs.GrowthLaws.{numbers_pass, edges_pass, planned_within}
use Rattle.bg_index.proofs.UsedLaws.{used_many}

module _ (host : HostState) (rule : RuleParts) (nodes : List ℕ) (reading : Reading) (read : IsRead host rule nodes reading) where
  -- what is listed is what is dropped
  pub listed_dropped : (gone : List ℕ) → ((node : ℕ) → Mem node gone ↔ IsListed rule nodes (boundary_of reading) node) → AreDropped host.big rule nodes gone
  listed_dropped gone are node =
      let is = dropped_is host rule nodes (boundary_of reading) read.is_host.numbered read.is_rule read.occurs read.reads.is_boundary node in
      (λ m. is.1 ((are node).0 m), λ d. (are node).1 (is.0 d))

  -- where there is no room for the numbers a limit is passed
  pub read_numbers_pass : (gone : List ℕ) → IsStrictlySortedBy nat_cmp gone → AreDropped host.big rule nodes gone
      → (HasNumbers host rule (late_count (boundary_of reading).parts [] rule.map) gone → ⊥) → PassesALimit host rule nodes
  read_numbers_pass gone up are none =
      numbers_pass host rule nodes (boundary_of reading) read.is_host read.is_rule read.occurs read.reads.is_boundary gone up are none

  -- as many edges are used as the reactum uses
  pub used_few : (used : List EdgeEntry) → length used ≡ length (filter (λ own. has_point rule.reactum (Edge own)) rule.reactum.edges)
      → host.next_edge + length rule.reactum.edges ≤ largest_counter → length used < 2 ^ 33
  used_few used many room =
      let less = length-filter (λ own. has_point rule.reactum (Edge own)) rule.reactum.edges in
      omega (arith, many, less, room)

  -- where there is no room for the edges a limit is passed
  pub read_edges_pass : (idle : List ℕ) → IsStrictlySortedBy nat_cmp idle → AreIdle host.big rule nodes (boundary_of reading) idle
      → (used : List EdgeEntry) → length used ≡ length (filter (λ own. has_point rule.reactum (Edge own)) rule.reactum.edges)
      → (length host.big.edges + length used ≤ most_host_edges + length idle → ⊥) → PassesALimit host rule nodes
  read_edges_pass idle up are used many none =
      edges_pass host rule nodes (boundary_of reading) read.is_host read.is_rule read.occurs read.reads.is_boundary idle up are
      (omega (arith, many, none))

  pub reaction_plan : (plan : Plan) → IsPlan host rule nodes (boundary_of reading) plan
      → HasNumbers host rule (late_count (boundary_of reading).parts [] rule.map) plan.gone.items
      → length host.big.edges + length plan.used.items ≤ most_host_edges + length plan.idle.items
      → IsReactionPlan host rule nodes plan
  reaction_plan plan is_plan fits few =
      let many = used_many host rule plan.used.items is_plan.used_are.edges in
      record {
        boundary = boundary_of reading;
        is_boundary = read.reads.is_boundary;
        is_plan = is_plan;
        within = planned_within host rule nodes (boundary_of reading) read.is_host read.is_rule read.occurs read.reads.is_boundary plan is_plan fits
            (omega (arith, many, few));
      }

  -- a plan whose new nodes have these rows
  pub put_plan : (plan : Plan) (new : List NodeRow) → IsStrictlySortedBy nat_cmp plan.gone.items → AreDropped host.big rule nodes plan.gone.items
      → AreMoves host rule nodes (boundary_of reading) plan.moves.items → AreNewRows host rule nodes (boundary_of reading) new
      → IsStrictlySortedBy nat_cmp plan.idle.items → AreIdle host.big rule nodes (boundary_of reading) plan.idle.items
      → AreUsed host rule new plan.used.items → AreBundles host rule nodes plan.gone.items plan.idle.items new plan.bundles.items
      → plan.next_node ≡ host.next_node + length rule.reactum.nodes + late_count (boundary_of reading).parts [] rule.map
      → plan.next_edge ≡ host.next_edge + length rule.reactum.edges
      → new_rows plan ≡ new
      → AreFilled (rows_after host.big.nodes plan.gone.items plan.moves.items new) plan.entries.items
      → AreNests (boundary_of reading) (rows_after host.big.nodes plan.gone.items plan.moves.items new) plan.nests.items
      → HasNumbers host rule (late_count (boundary_of reading).parts [] rule.map) plan.gone.items
      → length host.big.edges + length plan.used.items ≤ most_host_edges + length plan.idle.items
      → IsReactionPlan host rule nodes plan
  put_plan plan new gone_up gone_are moves_are rows_are idle_up idle_are used_are bundles_are next_node next_edge same filled nests_are fits few =
      let back = sym same in
      let all : rows_after host.big.nodes plan.gone.items plan.moves.items new ≡ rows_after host.big.nodes plan.gone.items plan.moves.items (new_rows plan) =
      ap (rows_after host.big.nodes plan.gone.items plan.moves.items) back in
      reaction_plan plan
      (record {
        gone_ascends = gone_up;
        gone_are = gone_are;
        moves_are = moves_are;
        rows_are = subst (AreNewRows host rule nodes (boundary_of reading)) back rows_are;
        filled = subst (λ (rs : List NodeRow). AreFilled rs plan.entries.items) all filled;
        nests_are = subst (λ (rs : List NodeRow). AreNests (boundary_of reading) rs plan.nests.items) all nests_are;
        idle_ascends = idle_up;
        idle_are = idle_are;
        used_are = subst (λ (rs : List NodeRow). AreUsed host rule rs plan.used.items) back used_are;
        bundles_are = subst (λ (rs : List NodeRow). AreBundles host rule nodes plan.gone.items plan.idle.items rs plan.bundles.items) back bundles_are;
        next_node = next_node;
        next_edge = next_edge;
      }) fits few
