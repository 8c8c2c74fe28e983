-- Going up from a node meets it and its proper ancestors.
use Rattle.std.proofs.Common.{◌≡◌, ℕ, zero, suc, ◌==◌, true, Option, Some, None, unwrap_or, option_map, List, [], length, map, refl, sym, ap, subst, ◌∙◌, inl, inr, eqb-true, eq-eqb, arith}
use Rattle.std.specs.List.{list_any}
use Rattle.std.specs.List.Sorted.{IsStrictlySortedBy}
use Rattle.std.proofs.lemmas.Bool.{or_cases, or_left, or_right}
use Rattle.std.proofs.lemmas.List.{length-map}
use Rattle.bg_base.specs.declared.names.Place.{Place}
use Rattle.bg_base.specs.declared.names.Place.TheVariants.{Node, Region}
use Rattle.bg_base.specs.declared.big.NodeRow.{NodeRow}
use Rattle.bg_base.specs.declared.big.Big.{Big}
use Rattle.bg_base.specs.Bigraph.{IsValid, node_cmp, row_of, reaches}
use Rattle.bg_base.proofs.LookUps.{row_from_row_of}
use Rattle.bg_base.proofs.Climbs.{row_from_reaches, reaches_upto, reaches-Climb, Climb-from_place}
use Rattle.bg_place.specs.declared.graph.ParentRow.{ParentRow}
use Rattle.bg_place.specs.Places.{parent_row, parent_in, climb, is_above, is_within}
use Rattle.bg_place.proofs.AncestryLaws.{find_parent}
use Rattle.bg_rules.specs.LocalConditions.{Meets, at_place, above}
use Rattle.bg_rules.proofs.Patterns.{number_mem, node_place}
use Rattle.bg_rules.proofs.Upwards.{not_Meets-region, Meets-cases}

module _ (rows : List NodeRow) (node : ℕ) where
  abbrev parents : List ParentRow
  parents = map parent_row rows

  -- what is met in so many moves from the place of the row that was found
  abbrev above_found : ℕ → Option Place → List ℕ
  above_found moves found = unwrap_or (option_map (climb (map parent_row rows) moves) found) []

  has_row : (moves : ℕ) (found : Option NodeRow)
      → list_any (λ n. n == node) (above_found moves (option_map (λ (row : ParentRow). row.parent) (option_map parent_row found))) ≡ true
      → (row : NodeRow) × (found ≡ Some row) × (list_any (λ n. n == node) (climb (map parent_row rows) moves row.parent) ≡ true)
  has_row moves None e = cc
  has_row moves (Some row) e = (row, refl, e)

  -- a node that a climb meets is met
  pub Meets-from_climb : (moves : ℕ) (place : Place) → list_any (λ n. n == node) (climb (map parent_row rows) moves place) ≡ true → Meets rows node place
  Meets-from_climb zero place e = cc
  Meets-from_climb (suc moves) (Region region) e = cc
  Meets-from_climb (suc moves) (Node n) e =
      elim (or_cases (n == node) (list_any (λ n. n == node) (above_found moves (parent_in (map parent_row rows) n))) e) [
        | inl same ↦ at_place (ap Node (eqb-true n node same))
        | inr more ↦ (let w = has_row moves (row_of rows n)
            (subst (λ found. list_any (λ n. n == node) (above_found moves found) ≡ true) (find_parent rows n) more) in
            let found = row_from_row_of rows n w.1 in
            above found.0 (ap Node (sym found.1)) (Meets-from_climb moves w.0.parent w.2))
      ]

  -- and a climb that reaches a region meets each node that is met
  pub climb_from_Meets : (regions : ℕ) → IsStrictlySortedBy node_cmp rows → (moves : ℕ) (place : Place) → reaches rows regions moves place ≡ true
      → Meets rows node place → list_any (λ n. n == node) (climb (map parent_row rows) moves place) ≡ true
  climb_from_Meets regions sorted zero (Node n) root meets = cc
  climb_from_Meets regions sorted zero (Region region) root meets = absurd (not_Meets-region refl meets)
  climb_from_Meets regions sorted (suc moves) (Region region) root meets = absurd (not_Meets-region refl meets)
  climb_from_Meets regions sorted (suc moves) (Node n) root meets =
      let rest = list_any (λ n. n == node) (above_found moves (parent_in (map parent_row rows) n)) in
      let w = row_from_reaches rows regions moves n root in
      let found = row_from_row_of rows n w.1 in
      elim (Meets-cases rows sorted found.0 (ap Node (sym found.1)) meets) [
        | inl e ↦ or_left (n == node) rest (eq-eqb n node (sym found.1 ∙ e))
        | inr up ↦ or_right (n == node) rest
            (ap (λ found. list_any (λ n. n == node) (above_found moves found))
            (find_parent rows n ∙ ap (λ found. option_map (λ (row : ParentRow). row.parent) (option_map parent_row found)) w.1)
            ∙ climb_from_Meets regions sorted moves w.0.parent w.2 up)
      ]

module _ (big : Big) (node other : ℕ) where
  pub Meets-from_within : is_within (map parent_row big.nodes) node other ≡ true → Meets big.nodes node (Node other)
  Meets-from_within e = Meets-from_climb big.nodes node (suc (length (map parent_row big.nodes))) (Node other) e

  pub Meets-from_above : is_above (map parent_row big.nodes) node other ≡ true → Meets big.nodes node (Node other)
  Meets-from_above e = Meets-from_within (or_right (other == node) (is_above (map parent_row big.nodes) node other) e)

  module _ (valid : IsValid big) where
    met_within : {place : Place} → place ≡ Node other → Meets big.nodes node place → is_within (map parent_row big.nodes) node other ≡ true
    met_within is (at_place e) =
        let both : Node other ≡ Node node = sym is ∙ e in
        let same : other ≡ node = cc in
        or_left (other == node) (is_above (map parent_row big.nodes) node other) (eq-eqb other node same)
    met_within is (above {row = row} m e up) =
        let both : Node other ≡ Node row.id = sym is ∙ e in
        let has = subst (λ place. reaches big.nodes big.regions (length big.nodes) place ≡ true) (sym both)
        (reaches-Climb (Climb-from_place big valid (Node row.id) (node_place big (number_mem m)))) in
        let long = length-map big.nodes parent_row in
        climb_from_Meets big.nodes node big.regions valid.nodes_ascend (suc (length (map parent_row big.nodes))) (Node other)
        (reaches_upto big.nodes big.regions (length big.nodes) (Node other) has (suc (length (map parent_row big.nodes))) (omega (arith, long)))
        (above m both up)

    pub within_from_Meets : Meets big.nodes node (Node other) → is_within (map parent_row big.nodes) node other ≡ true
    within_from_Meets meets = met_within refl meets

    pub above_from_Meets : (node ≡ other → ⊥) → Meets big.nodes node (Node other) → is_above (map parent_row big.nodes) node other ≡ true
    above_from_Meets differ meets =
        elim (or_cases (other == node) (is_above (map parent_row big.nodes) node other) (within_from_Meets meets)) [
          | inl same ↦ absurd (differ (sym (eqb-true other node same)))
          | inr higher ↦ higher
        ]
