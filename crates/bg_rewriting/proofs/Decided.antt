-- What is read off decides: for a host at an occurrence.
use Rattle.std.proofs.Common.{◌≡◌, ◌↔◌, ℕ, List, take, get_or, inl, inr}
use Rattle.bg_lists.specs.Lists.{Mem, At}
use Rattle.bg_base.specs.declared.names.Place.TheVariants.{Node, Region}
use Rattle.bg_base.specs.declared.big.NodeRow.{NodeRow}
use Rattle.bg_rules.specs.Decomposition.{Occurs}
use Rattle.bg_rules.specs.LocalConditions.{image_of}
use Rattle.bg_rules.specs.Reaction.{HostState, IsNumbered}
use Rattle.bg_rules.proofs.Glued.{Glued}
use Rattle.bg_rules.proofs.Occurrences.{glued_of}
use Rattle.bg_rules.specs.Rules.{RuleParts, IsRule}
use Rattle.bg_rewriting.specs.Boundaries.{Boundary, IsBoundary}
use Rattle.bg_rewriting.specs.Rewriting.{place_made, IsRowAfter}
use Rattle.bg_rewriting.specs.Touching.{IsDropped, IsEdgeKept, IsListed, IsIdle}
use Rattle.bg_rewriting.proofs.Classes.{dropped_or_left}
use Rattle.bg_rewriting.proofs.Listed.{dropped_listed, listed_dropped, idle_from, idle_not_kept, top_moves, others_stay}

module _ (host : HostState) (rule : RuleParts) (nodes : List ℕ) (boundary : Boundary) (numbered : IsNumbered host)
    (is_rule : IsRule rule) (o : Occurs host.big rule.redex nodes) (is_boundary : IsBoundary host.big rule nodes boundary) where
  glued : Glued host.big rule.redex nodes o.context o.edges o.parameter
  glued = glued_of host.big rule.redex nodes o.context o.edges o.parameter is_rule.sides.is_pattern o.decomposes

  pub dropped_is : (node : ℕ) → IsDropped host.big rule nodes node ↔ IsListed rule nodes boundary node
  dropped_is node = (
    dropped_listed host rule nodes numbered is_rule boundary is_boundary o.context o.edges o.parameter glued node,
    listed_dropped host rule nodes numbered is_rule boundary is_boundary o.context o.edges o.parameter glued node,
  )

  pub idle_is : (edge : ℕ) → (IsEdgeKept host.big rule nodes boundary edge → ⊥) ↔ IsIdle host.big rule nodes boundary edge
  idle_is edge = (
    idle_from host rule nodes numbered is_rule boundary is_boundary o.context o.edges o.parameter glued edge,
    idle_not_kept host rule nodes numbered is_rule boundary is_boundary o.context o.edges o.parameter glued edge,
  )

  pub moves_so : (site at node : ℕ) (row : NodeRow) → At (Node node) site rule.redex.sites → At site at rule.map → (Mem site (take at rule.map) → ⊥)
      → Mem row host.big.nodes → (Mem row.id nodes → ⊥) → row.parent ≡ Node (image_of rule.redex nodes node)
      → IsRowAfter host rule nodes boundary
      (record row { parent = place_made host.next_node boundary.places (get_or rule.reactum.sites at (Region at)) })
  moves_so site at node row s a none m no_image e =
      top_moves host rule nodes numbered is_rule boundary is_boundary o.context o.edges o.parameter glued s a none m no_image e

  pub stays_so : (row : NodeRow) → Mem row host.big.nodes → (IsDropped host.big rule nodes row.id → ⊥)
      → ((site node : ℕ) → At (Node node) site rule.redex.sites → Mem site rule.map → row.parent ≡ Node (image_of rule.redex nodes node) → ⊥)
      → IsRowAfter host rule nodes boundary row
  stays_so row m kept apart =
      elim (dropped_or_left is_rule.sides.is_pattern numbered.ground glued m) [
        | inl dropped ↦ absurd (kept dropped)
        | inr left ↦ others_stay host rule nodes numbered is_rule boundary is_boundary o.context o.edges o.parameter glued left apart
      ]
