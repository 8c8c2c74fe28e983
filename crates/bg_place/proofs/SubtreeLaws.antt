-- Laws of the search for the nodes that lie in a node, where no climb needs more moves than there are rows.
use Rattle.std.proofs.Common.{◌≡◌, ℕ, suc, ◌<◌, ◌==◌, ◌||◌, option_map, unwrap_or, List, [], length, sym, ap, ◌∙◌, arith, eqb-true}
use Rattle.std.specs.List.{list_any}
use Rattle.std.proofs.lemmas.Bool.{false_from_ne_true}
use Rattle.std.proofs.lemmas.Option.{slice_get_within}
use Rattle.bg_lists.proofs.Words.{member_from_find}
use Rattle.bg_base.specs.declared.names.Place.{Place}
use Rattle.bg_base.specs.declared.names.Place.TheVariants.{Node, Region}
use Rattle.bg_place.specs.declared.graph.ParentRow.{ParentRow}
use Rattle.bg_place.specs.Places.{climb, is_within, is_above, node_number}
use Rattle.bg_place.specs.Rows.{IsRowOf, ClimbsEnd, lies_in, lies_at}
use Rattle.bg_place.proofs.ClimbLaws.{climb_region}

-- ---- climbs and marks

module _ (rows : List ParentRow) (upper : ℕ) where
  -- where there is a row there are rows
  some_row : (node at : ℕ) (row : ParentRow) → IsRowOf rows node at row → 0 < length rows
  some_row node at row is =
      let inside = slice_get_within rows at row is.there in omega (arith, inside)

  -- the row of a node has its number
  row_number : (node at : ℕ) (row : ParentRow) → IsRowOf rows node at row → row.node ≡ node
  row_number node at row is =
      eqb-true row.node node (member_from_find (λ (r : ParentRow). r.node == node) rows row is.first).1

  module _ (ok : ClimbsEnd rows) where
    -- a climb from a node meets it and what it lies in
    climb_within : 0 < length rows → (node : ℕ)
        → is_within rows upper node ≡ list_any (λ n. n == upper) (climb rows (length rows) (Node node))
    climb_within some node = ap (list_any (λ n. n == upper)) (ok.settled some node)

    -- a climb from a place meets the upper node where the place lies in it
    climb_lies_in : 0 < length rows → (place : Place)
        → list_any (λ n. n == upper) (climb rows (length rows) place) ≡ lies_in rows upper place
    climb_lies_in some (Node node) = sym (climb_within some node)
    climb_lies_in some (Region region) = ap (list_any (λ n. n == upper)) (climb_region rows (length rows) region)

    -- another node lies in it where its parent does
    pub within_step : (node at : ℕ) (row : ParentRow) → (node ≡ upper → ⊥) → IsRowOf rows node at row
        → is_within rows upper node ≡ lies_in rows upper row.parent
    within_step node at row other is =
        ap (λ b. b || is_above rows upper node) (false_from_ne_true (node == upper) (λ t. other (eqb-true node upper t)))
        ∙ ap (λ found. list_any (λ n. n == upper) (unwrap_or (option_map (climb rows (length rows)) (option_map (λ (r : ParentRow). r.parent) found)) [])) is.first
        ∙ climb_lies_in (some_row node at row is) row.parent

    -- more is met from another node than from what it lies in
    pub within_lower : (node at : ℕ) (row : ParentRow) → IsRowOf rows node at row
        → length (climb rows (length rows) row.parent) < length (climb rows (length rows) (Node node))
    within_lower node at row is =
        let met : length (climb rows (length rows) (Node node)) ≡ suc (length (climb rows (length rows) row.parent))
        = ap length (sym (ok.settled (some_row node at row is) node))
        ∙ ap (λ found. suc (length (unwrap_or (option_map (climb rows (length rows)) (option_map (λ (r : ParentRow). r.parent) found)) []))) is.first in
        omega (arith, met)

  -- the row of a node stands where its first row does
  pub lies_at-first : (node at : ℕ) (row : ParentRow) → IsRowOf rows node at row → lies_at rows upper at ≡ is_within rows upper node
  lies_at-first node at row is =
      ap (λ found. is_within rows upper (unwrap_or (option_map node_number found) 0)) is.there ∙ ap (is_within rows upper) (row_number node at row is)
