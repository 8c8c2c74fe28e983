-- The same in the words of what is read off: which nodes are dropped, which edges become idle, which rows move and which stay.
use Rattle.std.proofs.Common.{◌≡◌, ℕ, ◌+◌, ◌==◌, List, length, filter, take, get_or, refl, sym, ap, ◌∙◌, inl, inr, eqb-true, arith}
use Rattle.std.proofs.lemmas.Bool.{cond-true}
use Rattle.bg_lists.specs.Lists.{Mem, At}
use Rattle.bg_lists.proofs.Members.{Mem-same, Mem-unfilter}
use Rattle.bg_lists.proofs.Places.{At-same, At-total, At-below, At-get_or, Mem-from_At}
use Rattle.bg_base.specs.declared.names.Place.{Place}
use Rattle.bg_base.specs.declared.names.Place.TheVariants.{Node, Region}
use Rattle.bg_base.specs.declared.big.NodeRow.{NodeRow}
use Rattle.bg_base.specs.declared.big.Big.{Big}
use Rattle.bg_rules.specs.Instantiation.{is_among}
use Rattle.bg_rules.specs.LocalConditions.{image_of}
use Rattle.bg_rules.specs.Reaction.{HostState, IsNumbered}
use Rattle.bg_rules.proofs.Glued.{Glued}
use Rattle.bg_rules.proofs.Patterns.{site_node, place_node, site_there, image_mem}
use Rattle.bg_rules.proofs.Upwards.{is_among-none, is_among-member}
use Rattle.bg_rules.specs.Rules.{RuleParts, IsRule}
use Rattle.bg_rewriting.specs.Boundaries.{MeetsFirst, first_here, first_above, IsBelow, Boundary, IsBoundary, times_asked}
use Rattle.bg_rewriting.specs.Rewriting.{place_made, number_copied, place_copied, IsRowAfter, stays, is_copied}
use Rattle.bg_rewriting.specs.Touching.{IsDropped, is_image, is_unasked, IsEdgeKept, by_row, by_name, IsListed, IsIdle}
use Rattle.bg_rewriting.proofs.Classes.{IsLeft, left_outside, left_asked, dropped_or_left, not_both, first_at, number_first, place_first, first_same}

-- what is asked for once is asked for
once_asked : (x : ℕ) (xs : List ℕ) → times_asked xs x ≡ 1 → Mem x xs
once_asked x xs e =
    let w = At-total (filter (λ y. y == x) xs) 0 (omega (arith, e)) in
    let v = Mem-unfilter (λ y. y == x) xs (Mem-from_At w.1) in
    Mem-same (eqb-true w.0 x v.1) v.0

module _ (host : HostState) (rule : RuleParts) (nodes : List ℕ) (numbered : IsNumbered host) (is_rule : IsRule rule)
    (boundary : Boundary) (is_boundary : IsBoundary host.big rule nodes boundary)
    (context : Big) (edges : List ℕ) (parameter : Big) (glued : Glued host.big rule.redex nodes context edges parameter) where
  -- ---- nodes that are dropped

  pub dropped_listed : (node : ℕ) → IsDropped host.big rule nodes node → IsListed rule nodes boundary node
  dropped_listed node (is_image m) = inl m
  dropped_listed node (is_unasked {site} {at} {row} s none low e) =
      let below = At-below s in
      let many = is_boundary.parts_many in
      let w = At-total boundary.parts site (omega (arith, below, many)) in
      let p = is_boundary.parts_are site at w.0 s w.1 (λ once. none (once_asked site rule.map once)) in
      inr (site, w.0, w.1, none, Mem-same e (p.all row low))

  pub listed_dropped : (node : ℕ) → IsListed rule nodes boundary node → IsDropped host.big rule nodes node
  listed_dropped node (inl m) = is_image m
  listed_dropped node (inr w) =
      let below = At-below w.2 in
      let many = is_boundary.parts_many in
      let s = At-get_or rule.redex.sites w.0 (Region w.0) (omega (arith, below, many)) in
      let t = site_node rule.redex is_rule.sides.is_pattern (Mem-from_At s) in
      let site = At-same t.1 s in
      let p = is_boundary.parts_are w.0 t.0 w.1 site w.2 (λ once. w.3 (once_asked w.0 rule.map once)) in
      let b = p.below node w.4 in
      is_unasked site w.3 b.1 b.2

  -- ---- edges that become idle

  pub idle_from : (edge : ℕ) → (IsEdgeKept host.big rule nodes boundary edge → ⊥) → IsIdle host.big rule nodes boundary edge
  idle_from edge none =
      record {
        all_dropped = λ row m k. elim (dropped_or_left is_rule.sides.is_pattern numbered.ground glued m) [
          | inl dropped ↦ dropped
          | inr left ↦ absurd (none (by_row m (λ dropped. not_both is_rule.sides.is_pattern numbered.ground glued m dropped left) k))
        ];
        unnamed = λ at name row a b m k. none (by_name a b m k);
      }

  pub idle_not_kept : (edge : ℕ) → IsIdle host.big rule nodes boundary edge → IsEdgeKept host.big rule nodes boundary edge → ⊥
  idle_not_kept edge idle (by_row {row} m none k) = none (idle.all_dropped row m k)
  idle_not_kept edge idle (by_name {at} {name} {row} a b m k) = idle.unnamed at name row a b m k

  -- ---- rows that move, and rows that stay

  -- what lies in the image of a node with a site goes where the first entry that asks for the site has its site
  pub top_moves : {site at node : ℕ} {row : NodeRow} → At (Node node) site rule.redex.sites → At site at rule.map → (Mem site (take at rule.map) → ⊥)
      → Mem row host.big.nodes → (Mem row.id nodes → ⊥) → row.parent ≡ Node (image_of rule.redex nodes node)
      → IsRowAfter host rule nodes boundary
      (record row { parent = place_made host.next_node boundary.places (get_or rule.reactum.sites at (Region at)) })
  top_moves {site} {at} {node} {row} s a none m no_image e =
      let image = image_mem rule.redex is_rule.sides.is_pattern.valid nodes glued.nodes_new
      (place_node rule.redex is_rule.sides.is_pattern.valid (site_there rule.redex is_rule.sides.is_pattern.valid (Mem-from_At s)) refl) in
      let low : IsBelow host.big.nodes nodes (image_of rule.redex nodes node) row = record { of_rows = m; no_image = no_image; under = first_here e image } in
      let first = is_among-none (take at rule.map) site none in
      let id = number_first boundary.parts rule.map (host.next_node + length rule.reactum.nodes) at site row.id first in
      let parent = ap (place_after at site) e
      ∙ cond-true (is_among (image_of rule.redex nodes node) nodes) (place_made host.next_node boundary.places (get_or rule.reactum.sites at (Region at)))
      (Node (number_copied boundary.parts rule.map (host.next_node + length rule.reactum.nodes) at site (image_of rule.redex nodes node))) (is_among-member nodes image) in
      is_copied a s low (λ t. record { id = id t; control = row.control; parent = parent t; links = row.links })
    where
      place_after : ℕ → ℕ → Place → Place
      place_after at site place = place_copied host rule nodes boundary at site place

  -- where an image is the place, it is what is met first
  met_here : {node image : ℕ} {place : Place} → MeetsFirst host.big.nodes nodes node place → place ≡ Node image → Mem image nodes → node ≡ image
  met_here {node} {image} (first_here f m) e n = let z : Node node ≡ Node image = sym f ∙ e in cc
  met_here {node} {image} (first_above {row = row} m f none up) e n =
      let z : Node row.id ≡ Node image = sym f ∙ e in
      let same : row.id ≡ image = cc in
      absurd (none (Mem-same (sym same) n))

  -- each other row that is not dropped stays as it is
  pub others_stay : {row : NodeRow} → IsLeft host.big rule nodes row
      → ((site node : ℕ) → At (Node node) site rule.redex.sites → Mem site rule.map → row.parent ≡ Node (image_of rule.redex nodes node) → ⊥)
      → IsRowAfter host rule nodes boundary row
  others_stay {row} (left_outside out) apart = stays out
  others_stay {row} (left_asked {site} {at = node} s k low) apart =
      let w = first_at rule.map k in
      let first = is_among-none (take w.0 rule.map) site w.2 in
      is_copied w.1 s low
      (first_same host rule nodes boundary is_rule is_boundary.places_many w.0 site first row
      (elim (place_first host rule nodes boundary is_rule is_boundary.places_many w.1 first row.parent) [
        | inl p ↦ p
        | inr v ↦ absurd (apart site node s k (v.2 ∙ ap Node (sym (met_here low.under v.2 v.1))))
      ]))
