-- Laws of rows in groups by place: places are told apart by a number, so what is said of rows in groups by a number is said
-- of these.
use Rattle.std.proofs.Common.{◌≡◌, ℕ, ◌+◌, ◌*◌, ◌-◌, ◌≤◌, ◌==◌, Bool, true, false, List, [], ◌∷◌, length, map, filter, take, drop, nat_cmp, is_lt, Less, sym, ap, subst, ◌∙◌, arith, ltb, leb, eqb-true}
use Rattle.std.specs.List.Sorted.{IsPartitionPoint, IsPartitionedBy, IsNonDecreasingBy, IsStableBy, IsStrictlySortedBy}
use Rattle.std.proofs.lemmas.Bool.{false_from_ne_true}
use Rattle.std.proofs.lemmas.Bool.Decides.{nat_tests}
use Rattle.std.proofs.lemmas.List.Elements.{filter_agree}
use Rattle.bg_lists.specs.Lists.{Mem, here, there}
use Rattle.bg_lists.specs.Orders.{Ascending, asc_nil, asc_cons}
use Rattle.bg_lists.proofs.Comparisons.{nat_cmp-lt}
use Rattle.bg_lists.proofs.Ascents.{Ascending-map, Ascending-filter, Ascending-from_sorted, sorted_from_Ascending}
use Rattle.bg_lists.proofs.Groups.{stable_group, group_found}
use Rattle.bg_base.specs.declared.names.Place.{Place}
use Rattle.bg_base.specs.declared.names.Place.TheVariants.{Node, Region}
use Rattle.bg_place.specs.declared.graph.ParentRow.{ParentRow}
use Rattle.bg_place.specs.Places.{same_place, node_number, numbers_in, numbered}
use Rattle.bg_place.specs.Rows.{parent_cmp, place_rank, row_rank, IsGroups, HasGroups}

-- ---- places by their positions

same_double : (m n : ℕ) → (m == n) ≡ (m * 2 == n * 2)
same_double m n = grind (arith, nat_tests)

same_double_one : (m n : ℕ) → (m == n) ≡ (m * 2 + 1 == n * 2 + 1)
same_double_one m n = grind (arith, nat_tests)

apart_double : (m n : ℕ) → false ≡ (m * 2 == n * 2 + 1)
apart_double m n = sym (false_from_ne_true (m * 2 == n * 2 + 1) (λ e. let same = eqb-true (m * 2) (n * 2 + 1) e in omega (arith, same)))

apart_double_one : (m n : ℕ) → false ≡ (m * 2 + 1 == n * 2)
apart_double_one m n = sym (false_from_ne_true (m * 2 + 1 == n * 2) (λ e. let same = eqb-true (m * 2 + 1) (n * 2) e in omega (arith, same)))

pub same_rank : (p q : Place) → same_place p q ≡ (place_rank p == place_rank q)
same_rank (Node m) (Node n) = same_double m n
same_rank (Node m) (Region n) = apart_double m n
same_rank (Region m) (Node n) = apart_double_one m n
same_rank (Region m) (Region n) = same_double_one m n

-- ---- rows of one place

-- rows of one place are those of its position
of_position : (place : Place) (row : ParentRow) → (row_rank row == place_rank place) ≡ same_place row.parent place
of_position place row = sym (same_rank row.parent place)

-- a stable sort by position keeps them
pub stable_groups : (groups rows : List ParentRow) → IsStableBy (λ x y. is_lt (nat_cmp (row_rank x) (row_rank y))) rows groups → HasGroups groups rows
stable_groups groups rows stable =
    record {
      same = λ place.
          let row : ParentRow = record { node = 0; parent = place } in
          sym (filter_agree _ _ (of_position place) groups) ∙ stable_group row_rank rows groups stable row ∙ filter_agree _ _ (of_position place) rows;
    }

-- the same rows in each place, so the same numbers
pub same_numbers : (place : Place) (groups rows : List ParentRow) → HasGroups groups rows → numbers_in place groups ≡ numbers_in place rows
same_numbers place groups rows has = ap (map node_number) (has.same place)

-- two searches of rows in order find the numbers of one place
pub searched : (place : Place) (all rows others : List ParentRow) (numbers parts : List ℕ) (wanted start count : ℕ)
    → IsGroups all numbers → wanted ≡ place_rank place → rows ≡ all → others ≡ all → parts ≡ numbers → start ≤ length rows
    → (IsPartitionedBy (λ y. ltb (row_rank y) wanted) rows
    → IsPartitionPoint (λ y. ltb (row_rank y) wanted ≡ true) (λ y. ltb (row_rank y) wanted ≡ false) rows start)
    → (IsPartitionedBy (λ y. leb (row_rank y) wanted) (take (length others - start) (drop start others))
    → IsPartitionPoint (λ y. leb (row_rank y) wanted ≡ true) (λ y. leb (row_rank y) wanted ≡ false) (take (length others - start) (drop start others)) count)
    → take (start + count - start) (drop start parts) ≡ numbers_in place all
searched place all rows others numbers parts wanted start count groups w e f g inside lower upper =
    let Upper : List ParentRow → Type 0
    = λ xs. IsPartitionedBy (λ y. leb (row_rank y) wanted) (take (length xs - start) (drop start xs))
    → IsPartitionPoint (λ y. leb (row_rank y) wanted ≡ true) (λ y. leb (row_rank y) wanted ≡ false) (take (length xs - start) (drop start xs)) count in
    group_found row_rank node_number rows parts (subst (IsNonDecreasingBy row_rank) (sym e) groups.rise) (g ∙ groups.same ∙ ap (map node_number) (sym e))
    wanted start count inside lower (subst Upper (f ∙ sym e) upper)
    ∙ ap (map node_number) (filter_agree (λ (row : ParentRow). row_rank row == wanted) (λ (row : ParentRow). same_place row.parent place)
    (λ row. ap (λ r. row_rank row == r) w ∙ of_position place row) rows)
    ∙ ap (numbers_in place) e

-- ---- order

-- numbers of rows that ascend
pub numbers_ascend : (test : ParentRow → Bool) (rows : List ParentRow) → IsStrictlySortedBy parent_cmp rows
    → IsStrictlySortedBy nat_cmp (map node_number (filter test rows))
numbers_ascend test rows up =
    sorted_from_Ascending {cmp = nat_cmp} (map node_number (filter test rows))
    (Ascending-map node_number (filter test rows) (λ x y less. less) (Ascending-filter test rows (Ascending-from_sorted rows up)))

later : (number : ℕ) (places : List Place) (row : ParentRow) → Mem row (numbered number places) → number ≤ row.node
later number [] row m = elim m [ ]
later number (place ∷ places) row (here e) = let same = ap node_number e in omega (arith, same)
later number (place ∷ places) row (there m) = let more = later (number + 1) places row m in omega (arith, more)

rises : (number : ℕ) (places : List Place) → Ascending (λ x y. parent_cmp x y ≡ Less) (numbered number places)
rises number [] = asc_nil
rises number (place ∷ places) =
    asc_cons (λ y m. nat_cmp-lt number y.node (let more = later (number + 1) places y m in omega (arith, more))) (rises (number + 1) places)

pub numbered_ascends : (number : ℕ) (places : List Place) → IsStrictlySortedBy parent_cmp (numbered number places)
numbered_ascends number places = sorted_from_Ascending {cmp = parent_cmp} (numbered number places) (rises number places)
