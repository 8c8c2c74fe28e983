-- Laws of places that are the same and of the rows of places: look-up, order, the rows of two bigraphs.
use Rattle.std.proofs.Common.{◌≡◌, ℕ, ◌==◌, List, ◌++◌, length, map, get_or, nat_cmp, Some, None, Result, Ok, Err, MatchResult, refl, sym, ap, ◌∙◌, true, eqb-true, eq-eqb}
use Rattle.std.specs.List.Sorted.{IsSearchInRange, IsBinarySearchResult, IsStrictlySortedBy}
use Rattle.std.proofs.lemmas.Cmp.{nat_cmp_total}
use Rattle.std.proofs.lemmas.List.{map-append}
use Rattle.bg_lists.specs.Lists.{sort}
use Rattle.bg_lists.specs.Orders.{before}
use Rattle.bg_lists.proofs.Members.{map-map}
use Rattle.bg_lists.proofs.Sorting.{map-sort}
use Rattle.bg_lists.proofs.Searches.{find-search}
use Rattle.bg_lists.proofs.Comparisons.{eqb-nat_cmp}
use Rattle.bg_lists.proofs.Places.{At-total, get_or-At, slice_get-At}
use Rattle.bg_lists.proofs.Ascents.{Ascending-from_sorted, sorted_from_Ascending, Ascending-map}
use Rattle.bg_base.specs.declared.names.Place.{Place}
use Rattle.bg_base.specs.declared.names.Place.TheVariants.{Node, Region}
use Rattle.bg_base.specs.declared.big.NodeRow.{NodeRow}
use Rattle.bg_base.specs.declared.big.Big.{Big}
use Rattle.bg_base.specs.Bigraph.{node_cmp}
use Rattle.bg_base.specs.Composition as through
use Rattle.bg_base.specs.Composition.{compose}
use Rattle.bg_base.specs.Products.{row_beside, tensor, parallel}
use Rattle.bg_place.specs.declared.graph.ParentRow.{ParentRow}
use Rattle.bg_place.specs.Places.{parent_row, places_of, row_of, moved_row, joined_parents, parents_beside, same_place}
use Rattle.bg_place.specs.Rows.{parent_cmp, IsRowAt}

-- the test that places are the same
pub same_place_from_test : (p q : Place) → same_place p q ≡ true → p ≡ q
same_place_from_test (Node m) (Node n) e = ap Node (eqb-true m n e)
same_place_from_test (Node m) (Region n) e = cc
same_place_from_test (Region m) (Node n) e = cc
same_place_from_test (Region m) (Region n) e = ap Region (eqb-true m n e)

pub same_place-itself : (p : Place) → same_place p p ≡ true
same_place-itself (Node m) = eq-eqb m m refl
same_place-itself (Region m) = eq-eqb m m refl

-- what a binary search of ascending rows answers
found_by : (rows : List ParentRow) (node : ℕ) → IsStrictlySortedBy parent_cmp rows → (r : Result ℕ ℕ)
    → IsSearchInRange r (length rows) → IsBinarySearchResult (λ (row : ParentRow). nat_cmp row.node node) rows r
    → MatchResult r (λ at. (default : ParentRow) → row_of rows node ≡ Some (get_or rows at default)) (λ _. row_of rows node ≡ None)
found_by rows node up r range answer =
    find-search nat_cmp_total (λ (row : ParentRow). row.node) node (λ (row : ParentRow). row.node == node)
    (λ row. eqb-nat_cmp row.node node) rows (Ascending-from_sorted rows up) r range answer

pub row-search : (rows : List ParentRow) (node : ℕ) → IsStrictlySortedBy parent_cmp rows → (r : Result ℕ ℕ)
    → IsSearchInRange r (length rows) → IsBinarySearchResult (λ (row : ParentRow). nat_cmp row.node node) rows r
    → MatchResult r (λ at. IsRowAt rows node at) (λ _. row_of rows node ≡ None)
row-search rows node up (Ok at) range answer =
    let w = At-total rows at range in
    let e : row_of rows node ≡ Some (get_or rows at w.0) = found_by rows node up (Ok at) range answer w.0 in
    record { inside = range; is_row = e ∙ ap Some (get_or-At rows w.0 w.1) ∙ sym (slice_get-At rows w.1) }
row-search rows node up (Err at) range answer = found_by rows node up (Err at) range answer

-- the nodes of a bigraph ascend, and so do their parent rows
pub parents_ascend : (rows : List NodeRow) → IsStrictlySortedBy node_cmp rows → IsStrictlySortedBy parent_cmp (map parent_row rows)
parents_ascend rows up =
    sorted_from_Ascending {cmp = parent_cmp} (map parent_row rows)
    (Ascending-map parent_row rows (λ x y less. less) (Ascending-from_sorted rows up))

-- and so do their rows in a bigraph of two, wherever their places move
pub moved_ascend : (move : Place → Place) (rows : List NodeRow) → IsStrictlySortedBy node_cmp rows
    → IsStrictlySortedBy parent_cmp (map (moved_row move) rows)
moved_ascend move rows up =
    sorted_from_Ascending {cmp = parent_cmp} (map (moved_row move) rows)
    (Ascending-map (moved_row move) rows (λ x y less. less) (Ascending-from_sorted rows up))

-- ---- rows of two bigraphs

module _ (first second : List NodeRow) where
  -- node rows of both in order have the parent rows of both in order
  pub parents_in_order : (shifted : NodeRow → NodeRow)
      → map parent_row (sort (before node_cmp) (first ++ map shifted second))
      ≡ sort (before parent_cmp) (map parent_row first ++ map (λ (row : NodeRow). parent_row (shifted row)) second)
  parents_in_order shifted =
      map-sort (before node_cmp) (before parent_cmp) parent_row (λ x y. refl) (first ++ map shifted second)
      ∙ ap (sort (before parent_cmp)) (map-append parent_row first (map shifted second)
      ∙ ap (λ rows. map parent_row first ++ rows) (map-map shifted parent_row second))

-- the parent rows of a composition
pub compose_parents : (g f : Big) → map parent_row (compose g f).nodes ≡ sort (before parent_cmp) (joined_parents g f)
unfolding compose
compose_parents g f = parents_in_order g.nodes f.nodes (through.row_through g)

-- the parent rows of a tensor product
pub tensor_parents : (f g : Big) → map parent_row (tensor f g).nodes ≡ sort (before parent_cmp) (parents_beside f g)
unfolding tensor
tensor_parents f g = parents_in_order f.nodes g.nodes (row_beside f.regions)

-- the two products, with names apart or shared, have the same places
pub parallel_places : (f g : Big) → places_of (parallel f g) ≡ places_of (tensor f g)
unfolding tensor parallel
parallel_places f g = refl
