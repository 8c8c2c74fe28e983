-- How deep a place is: what lies in a node is deeper.
use Rattle.std.proofs.Common.{◌≡◌, ℕ, zero, suc, ◌+◌, ◌<◌, true, Some, is_some, unwrap_or, option_map, List, length, refl, sym, ap, subst, ◌∙◌, arith}
use Rattle.bg_base.specs.declared.names.Place.{Place}
use Rattle.bg_base.specs.declared.names.Place.TheVariants.{Node, Region}
use Rattle.bg_base.specs.declared.big.NodeRow.{NodeRow}
use Rattle.bg_base.specs.declared.big.Big.{Big}
use Rattle.bg_base.specs.Bigraph.{IsValid, row_of, has_place, reaches}
use Rattle.bg_base.specs.Climbing.{met_above, depth}
use Rattle.bg_base.proofs.Climbs.{row_from_reaches, reaches-Climb, Climb-from_place}

module _ (rows : List NodeRow) where
  met_row : (moves node : ℕ) {row : NodeRow} → row_of rows node ≡ Some row → met_above rows (suc moves) (Node node) ≡ met_above rows moves row.parent + 1
  met_row moves node e = ap (λ o. unwrap_or (option_map (λ (row : NodeRow). met_above rows moves row.parent + 1) o) 0) e

  -- more moves meet no more
  met_all : (regions moves : ℕ) (place : Place) → reaches rows regions moves place ≡ true → met_above rows (suc moves) place ≡ met_above rows moves place
  met_all regions zero (Node node) e = cc
  met_all regions zero (Region region) e = refl
  met_all regions (suc moves) (Region region) e = refl
  met_all regions (suc moves) (Node node) e =
      let w = row_from_reaches rows regions moves node e in
      met_row (suc moves) node w.1 ∙ ap (λ n. n + 1) (met_all regions moves w.0.parent w.2) ∙ sym (met_row moves node w.1)

  met_parent : (regions moves node : ℕ) {row : NodeRow} → row_of rows node ≡ Some row → reaches rows regions moves (Node node) ≡ true
      → met_above rows moves (Node node) ≡ met_above rows moves row.parent + 1
  met_parent regions zero node is e = cc
  met_parent regions (suc moves) node {row} is e =
      let w = row_from_reaches rows regions moves node e in
      let both : Some w.0 ≡ Some row = sym w.1 ∙ is in
      let same : w.0 ≡ row = cc in
      let up : reaches rows regions moves row.parent ≡ true = subst (λ (r : NodeRow). reaches rows regions moves r.parent ≡ true) same w.2 in
      met_row moves node is ∙ ap (λ n. n + 1) (sym (met_all regions moves row.parent up))

module _ (big : Big) (valid : IsValid big) where
  depth_is : (place : Place) → depth big place ≡ met_above big.nodes (length big.nodes) place
  unfolding depth
  depth_is place = refl

  depth_row : (node : ℕ) {row : NodeRow} → row_of big.nodes node ≡ Some row → depth big (Node node) ≡ depth big row.parent + 1
  depth_row node {row} is =
      let has : has_place big (Node node) ≡ true = ap is_some is in
      let root = reaches-Climb (Climb-from_place big valid (Node node) has) in
      depth_is (Node node) ∙ met_parent big.nodes big.regions (length big.nodes) node is root
      ∙ ap (λ n. n + 1) (sym (depth_is row.parent))

  -- a node is deeper than what it lies in
  pub parent_nearer : (node : ℕ) {row : NodeRow} → row_of big.nodes node ≡ Some row → depth big row.parent < depth big (Node node)
  parent_nearer node is = let more = depth_row node is in omega (arith, more)
