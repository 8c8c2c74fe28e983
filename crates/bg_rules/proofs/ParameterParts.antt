-- The parts of a parameter under its regions: each node is in one of them, with all that lies in it.
use Rattle.std.proofs.Common.{◌≡◌, ℕ, zero, suc, ◌<◌, Bool, true, false, List, filter, length, Some, unwrap_or, option_map, refl, sym, ap, subst, ◌∙◌, eqb-true, eq-eqb}
use Rattle.std.specs.List.{IsDistinct}
use Rattle.std.specs.Ordering.{eq_by_cmp}
use Rattle.std.proofs.Common.{ltb-true}
use Rattle.bg_lists.specs.Lists.{Mem}
use Rattle.bg_lists.proofs.Members.{Mem-filter, Mem-unfilter}
use Rattle.bg_lists.proofs.Ascents.{Ascending-from_sorted, Ascending-filter}
use Rattle.bg_lists.proofs.Sorting.{IsDistinct-from_Ascending}
use Rattle.bg_lists.proofs.Tests.{some_from_unwrap}
use Rattle.bg_base.specs.declared.names.Place.{Place}
use Rattle.bg_base.specs.declared.names.Place.TheVariants.{Node, Region}
use Rattle.bg_base.specs.declared.big.NodeRow.{NodeRow}
use Rattle.bg_base.specs.declared.big.Big.{Big}
use Rattle.bg_base.specs.Bigraph.{IsValid, node_cmp, row_of}
use Rattle.bg_rules.specs.Instantiation.{is_under, part}
use Rattle.bg_rules.proofs.Patterns.{number_mem}
use Rattle.bg_base.specs.Bigraph.{reaches}
use Rattle.bg_base.proofs.Climbs.{row_from_reaches, reaches-Climb, Climb-from_place}
use Rattle.bg_rules.proofs.Patterns.{node_place}

-- ---- from a place one region is reached

module _ (rows : List NodeRow) where
  pub row_from_under : (region moves node : ℕ) → is_under rows region (suc moves) (Node node) ≡ true
      → (row : NodeRow) × (row_of rows node ≡ Some row) × (is_under rows region moves row.parent ≡ true)
  row_from_under region moves node e = some_from_unwrap (λ (row : NodeRow). is_under rows region moves row.parent) (row_of rows node) e

  pub under_row : (region moves node : ℕ) {row : NodeRow} → row_of rows node ≡ Some row
      → is_under rows region (suc moves) (Node node) ≡ is_under rows region moves row.parent
  under_row region moves node e =
      ap (λ o. unwrap_or (option_map (λ (row : NodeRow). is_under rows region moves row.parent) o) false) e

  under_more : (region moves : ℕ) (place : Place) → is_under rows region moves place ≡ true → is_under rows region (suc moves) place ≡ true
  under_more region zero (Node node) e = cc
  under_more region zero (Region other) e = e
  under_more region (suc moves) (Region other) e = e
  under_more region (suc moves) (Node node) e =
      let w = row_from_under region moves node e in under_row region (suc moves) node w.1 ∙ under_more region moves w.0.parent w.2

  pub one_region : (region other moves : ℕ) (place : Place) → is_under rows region moves place ≡ true → is_under rows other moves place ≡ true → region ≡ other
  one_region region other zero (Node node) e f = cc
  one_region region other zero (Region at) e f = sym (eqb-true at region e) ∙ eqb-true at other f
  one_region region other (suc moves) (Region at) e f = sym (eqb-true at region e) ∙ eqb-true at other f
  one_region region other (suc moves) (Node node) e f =
      let v = row_from_under region moves node e in
      let w = row_from_under other moves node f in
      let both : Some w.0 ≡ Some v.0 = sym w.1 ∙ v.1 in
      let same : w.0 ≡ v.0 = cc in
      one_region region other moves v.0.parent v.2 (subst (λ (row : NodeRow). is_under rows other moves row.parent ≡ true) same w.2)

  -- what a node lies in is under the region that the node is under
  pub parent_under : (region moves node : ℕ) {row : NodeRow} → row_of rows node ≡ Some row → is_under rows region moves (Node node) ≡ true
      → is_under rows region moves row.parent ≡ true
  parent_under region zero node e under = cc
  parent_under region (suc moves) node {row} e under = under_more region moves row.parent (sym (under_row region moves node e) ∙ under)

-- a place that reaches one of the regions is under the region that it reaches
under_from_reaches : (rows : List NodeRow) (regions moves : ℕ) (place : Place) → reaches rows regions moves place ≡ true
    → (region : ℕ) × (region < regions) × (is_under rows region moves place ≡ true)
under_from_reaches rows regions zero (Node node) e = cc
under_from_reaches rows regions zero (Region region) e = (region, ltb-true region regions e, eq-eqb region region refl)
under_from_reaches rows regions (suc moves) (Region region) e = (region, ltb-true region regions e, eq-eqb region region refl)
under_from_reaches rows regions (suc moves) (Node node) e =
    let w = row_from_reaches rows regions moves node e in
    let v = under_from_reaches rows regions moves w.0.parent w.2 in
    (v.0, v.1, under_row rows v.0 moves node w.1 ∙ v.2)

-- a region is under itself alone
pub region_from_under : (rows : List NodeRow) (region other moves : ℕ) → is_under rows region moves (Region other) ≡ true → other ≡ region
region_from_under rows region other zero e = eqb-true other region e
region_from_under rows region other (suc moves) e = eqb-true other region e

-- ---- parts

-- the place is in the part of the parameter under the region
abbrev pub is_in_part : Big → ℕ → Place → Bool
is_in_part parameter region place = is_under parameter.nodes region (length parameter.nodes) place

module _ (parameter : Big) where
  pub Mem-part : {row : NodeRow} (region : ℕ) → Mem row parameter.nodes → is_in_part parameter region (Node row.id) ≡ true → Mem row (part parameter region)
  unfolding part
  Mem-part region m under = Mem-filter (λ (row : NodeRow). is_in_part parameter region (Node row.id)) parameter.nodes m under

  pub Mem-unpart : {row : NodeRow} (region : ℕ) → Mem row (part parameter region) → Mem row parameter.nodes × (is_in_part parameter region (Node row.id) ≡ true)
  unfolding part
  Mem-unpart region m = Mem-unfilter (λ (row : NodeRow). is_in_part parameter region (Node row.id)) parameter.nodes m

  -- a node is in the part of one region
  pub part_region : {row other : NodeRow} (region twin : ℕ) → Mem row (part parameter region) → Mem other (part parameter twin) → row.id ≡ other.id → region ≡ twin
  part_region {row} {other} region twin m n e =
      one_region parameter.nodes region twin (length parameter.nodes) (Node row.id) (Mem-unpart region m).1
      (subst (λ node. is_in_part parameter twin (Node node) ≡ true) (sym e) (Mem-unpart twin n).1)

  -- each node is in the part of a region
  pub in_some_part : IsValid parameter → {row : NodeRow} → Mem row parameter.nodes → (region : ℕ) × (region < parameter.regions) × Mem row (part parameter region)
  in_some_part valid {row} m =
      let root = reaches-Climb (Climb-from_place parameter valid (Node row.id) (node_place parameter (number_mem m))) in
      let w = under_from_reaches parameter.nodes parameter.regions (length parameter.nodes) (Node row.id) root in
      (w.0, w.1, Mem-part w.0 m w.2)

  pub part_distinct : (region : ℕ) → IsValid parameter → IsDistinct (eq_by_cmp node_cmp) (part parameter region)
  unfolding part
  part_distinct region valid =
      IsDistinct-from_Ascending (filter (λ (row : NodeRow). is_in_part parameter region (Node row.id)) parameter.nodes)
      (Ascending-filter (λ (row : NodeRow). is_in_part parameter region (Node row.id)) parameter.nodes (Ascending-from_sorted parameter.nodes valid.nodes_ascend))
