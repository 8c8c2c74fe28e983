-- The laws of a host that reacts.
use Rattle.std.proofs.Common.{◌≡◌, ◌↔◌, ℕ, ◌+◌, ◌≤◌, ◌++◌, not, List, [], length, map, filter, nat_cmp, subst, ◌∙◌, inl, inr}
use Rattle.std.specs.List.Sorted.{IsStrictlySortedBy}
use Rattle.bg_lists.specs.Lists.{Mem}
use Rattle.bg_lists.proofs.Members.{Mem-same}
use Rattle.bg_base.specs.declared.names.Place.TheVariants.{Node, Region}
use Rattle.bg_base.specs.declared.names.Link.{Link}
use Rattle.bg_base.specs.declared.names.Link.TheVariants.{Edge}
use Rattle.bg_base.specs.declared.big.NodeRow.{NodeRow}
use Rattle.bg_base.specs.Elementary.{counted}
use Rattle.bg_base.specs.Products.{has_point}
use Rattle.bg_base.specs.Translation.{node_numbers}
use Rattle.bg_place.specs.Places.{places_of, children_of}
use Rattle.bg_link.specs.Links.{links_of, points_of}
use Rattle.bg_rules.specs.Instantiation.{is_among}
use Rattle.bg_rules.specs.Reaction.{HostState, IsNumbered, Reacts}
use Rattle.bg_rules.proofs.Glued.{Glued}
use Rattle.bg_rules.proofs.Occurrences.{glued_of}
use Rattle.bg_rules.proofs.Patterns.{number_mem, number_row}
use Rattle.bg_rules.proofs.Reactions.{result_numbered}
use Rattle.bg_rules.proofs.Upwards.{among_cases}
use Rattle.bg_rules.specs.Rules.{RuleParts, IsRule}
use Rattle.bg_rewriting.specs.Boundaries.{Boundary, IsBoundary}
use Rattle.bg_rewriting.specs.Rewriting.{IsRewritten, late_count}
use Rattle.bg_rewriting.specs.Touching.{IsGone, IsChangedRow, IsUntouched, IsTouched, IsDropped, IsMarked, AreMarked, IsEdgeKept}
use Rattle.bg_rewriting.specs.Making.{AreDropped}
use Rattle.bg_rewriting.proofs.Classes.{dropped_or_left}
use Rattle.bg_rewriting.proofs.Rewritten.{rewritten}
use Rattle.bg_rewriting.proofs.Touched.{left_there, gone_is, is_gone, changed_is, is_changed, untouched_is, children_same, roots_same, points_same}
use Rattle.bg_rewriting.proofs.Numbers as number
use Rattle.bg_rewriting.proofs.Edges as edge

module _ (host : HostState) (rule : RuleParts) (nodes : List ℕ) (boundary : Boundary) (after : HostState) (numbered : IsNumbered host)
    (is_rule : IsRule rule) (is_boundary : IsBoundary host.big rule nodes boundary)
    (r : Reacts host rule nodes after) where
  glued : Glued host.big rule.redex nodes r.context r.edges r.parameter
  glued = glued_of host.big rule.redex nodes r.context r.edges r.parameter is_rule.sides.is_pattern r.decomposes

  after_numbered : IsNumbered after
  after_numbered = result_numbered host rule nodes numbered is_rule after r

  is_rewritten : IsRewritten host rule nodes boundary after
  is_rewritten = rewritten host rule nodes numbered is_rule boundary is_boundary after r

  pub gone_dropped : (node : ℕ) → IsGone host.big after.big node ↔ IsDropped host.big rule nodes node
  gone_dropped node = (
    gone_is host rule nodes numbered is_rule boundary is_boundary r.context r.edges r.parameter glued after after_numbered.ground is_rewritten node,
    is_gone host rule nodes numbered is_rule boundary is_boundary r.context r.edges r.parameter glued after after_numbered.ground is_rewritten node,
  )

  pub changed_marked : (row : NodeRow) → Mem row after.big.nodes → IsChangedRow host.big after.big row ↔ IsMarked host rule nodes boundary after.big row
  changed_marked row m = (
    changed_is host rule nodes numbered is_rule boundary is_boundary r.context r.edges r.parameter glued after after_numbered.ground is_rewritten m,
    is_changed host rule nodes numbered is_rule boundary is_boundary r.context r.edges r.parameter glued after after_numbered.ground is_rewritten m,
  )

  pub untouched_stay : (row : NodeRow) → Mem row after.big.nodes → (IsMarked host rule nodes boundary after.big row → ⊥)
      → IsUntouched host.big after.big row.id
  untouched_stay row m none =
      untouched_is host rule nodes numbered is_rule boundary is_boundary r.context r.edges r.parameter glued after after_numbered.ground is_rewritten m none

  -- two ascending lists of what is dropped and of what is marked
  pub are_touched : (gone changed : List ℕ) → IsStrictlySortedBy nat_cmp gone → AreDropped host.big rule nodes gone
      → IsStrictlySortedBy nat_cmp changed → AreMarked host rule nodes boundary after.big changed → IsTouched host.big after.big gone changed
  are_touched gone changed gone_up dropped changed_up marked =
      record {
        gone_ascends = gone_up;
        gone_are = λ node. (λ m. (gone_dropped node).1 ((dropped node).0 m), λ g. (dropped node).1 ((gone_dropped node).0 g));
        changed_ascends = changed_up;
        changed_are = λ node. (
          λ m. let w = marked.each node m in record { row = w.0; is = w.1; number = w.2; changed = (changed_marked w.0 w.1).1 w.3 },
          λ c. Mem-same c.number (marked.marked c.row c.is ((changed_marked c.row c.is).0 c.changed)),
        );
        gone_or_there = λ node m. let w = number_row host.big.nodes m in
            elim (dropped_or_left is_rule.sides.is_pattern numbered.ground glued w.1) [
              | inl is ↦ inl ((dropped node).1 (subst (IsDropped host.big rule nodes) w.2 is))
              | inr left ↦ (let v = left_there host rule nodes numbered is_rule boundary is_boundary r.context r.edges r.parameter glued after after_numbered.ground is_rewritten left in
                  inr (Mem-same (v.2 ∙ w.2) (number_mem v.1)))
            ];
        changed_or_untouched = λ node m. let w = number_row after.big.nodes m in
            elim (among_cases changed node) [
              | inl k ↦ inl k
              | inr none ↦ inr (subst (IsUntouched host.big after.big) w.2 (untouched_stay w.0 w.1 (λ is. none (Mem-same w.2 (marked.marked w.0 w.1 is)))))
            ];
      }

  pub children_stay : (was row : NodeRow) → Mem was host.big.nodes → Mem row after.big.nodes → was.id ≡ row.id → (Mem (Node row.id) boundary.places → ⊥)
      → children_of (places_of host.big) (Node row.id) ≡ children_of (places_of after.big) (Node row.id)
  children_stay was row m n e apart =
      children_same host rule nodes numbered is_rule boundary is_boundary r.context r.edges r.parameter glued after after_numbered.ground is_rewritten m n e apart

  pub roots_stay : (region : ℕ) → (Mem (Region region) boundary.places → ⊥)
      → children_of (places_of host.big) (Region region) ≡ children_of (places_of after.big) (Region region)
  roots_stay region apart =
      roots_same host rule nodes numbered is_rule boundary is_boundary r.context r.edges r.parameter glued after after_numbered.ground is_rewritten region apart

  pub points_stay : (link : Link) → ((row : NodeRow) → Mem row host.big.nodes → IsDropped host.big rule nodes row.id → Mem link row.links → ⊥)
      → ((row : NodeRow) → Mem row after.big.nodes → host.next_node ≤ row.id → Mem link row.links → ⊥)
      → points_of (links_of host.big) link ≡ points_of (links_of after.big) link
  points_stay link lost got =
      points_same host rule nodes numbered is_rule boundary is_boundary r.context r.edges r.parameter glued after after_numbered.ground is_rewritten link lost got

  module _ (gone : List ℕ) (gone_are : (node : ℕ) → Mem node gone ↔ IsDropped host.big rule nodes node) where
    pub numbers : node_numbers after.big.nodes ≡ filter (λ node. not (is_among node gone)) (node_numbers host.big.nodes)
        ++ counted host.next_node (length rule.reactum.nodes + late_count boundary.parts [] rule.map)
    numbers =
        number.numbers_after host rule nodes numbered is_rule boundary is_boundary r.context r.edges r.parameter glued after after_numbered
        is_rewritten gone gone_are

    pub count : IsStrictlySortedBy nat_cmp gone
        → length after.big.nodes + length gone ≡ length host.big.nodes + (length rule.reactum.nodes + late_count boundary.parts [] rule.map)
    count =
        number.nodes_counted host rule nodes numbered is_rule boundary is_boundary r.context r.edges r.parameter glued after after_numbered
        is_rewritten gone gone_are

  module _ (idle : List ℕ)
      (idle_are : (edge : ℕ) → Mem edge idle ↔ (Mem edge host.big.edges × (IsEdgeKept host.big rule nodes boundary edge → ⊥))) where
    pub edges : after.big.edges ≡ filter (λ edge. not (is_among edge idle)) host.big.edges
        ++ map (λ own. host.next_edge + own) (filter (λ own. has_point rule.reactum (Edge own)) rule.reactum.edges)
    edges =
        edge.edges_after host rule nodes numbered is_rule boundary is_boundary r.context r.edges r.parameter glued after after_numbered.ground
        is_rewritten idle idle_are

    pub edges_many : IsStrictlySortedBy nat_cmp idle
        → length after.big.edges + length idle ≡ length host.big.edges + length (filter (λ own. has_point rule.reactum (Edge own)) rule.reactum.edges)
    edges_many =
        edge.edges_counted host rule nodes numbered is_rule boundary is_boundary r.context r.edges r.parameter glued after after_numbered.ground
        is_rewritten idle idle_are
