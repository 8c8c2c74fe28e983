-- What a binary search of ascending rows answers is the rank of the node.
use Rattle.std.proofs.Common.{◌≡◌, ℕ, suc, ◌+◌, ◌<◌, ◌≤◌, ◌==◌, false, cond, not, is_eq, List, [], ◌∷◌, length, get_or, nat_cmp, Equal, Less, Result, Ok, Err, MatchResult, None, refl, sym, ap, ◌∙◌, arith, eqb-true}
use Rattle.std.specs.List.{position_or_len}
use Rattle.std.specs.List.Sorted.{IsStrictlySortedBy, IsSearchInRange, IsBinarySearchResult}
use Rattle.std.proofs.lemmas.Bool.{cond_both}
use Rattle.std.proofs.lemmas.List.{length-map}
use Rattle.bg_lists.specs.Lists.{Mem, here, there, At}
use Rattle.bg_lists.specs.Orders.{Ascending}
use Rattle.bg_lists.proofs.Comparisons.{eqb-nat_cmp, lt-from_nat_cmp}
use Rattle.bg_lists.proofs.Members.{Mem-unmap}
use Rattle.bg_lists.proofs.Places.{At-get_or, At-total, At-map, At-same, Mem-from_At}
use Rattle.bg_lists.proofs.Words.{fails_from_find}
use Rattle.bg_lists.proofs.Ascents.{Ascending-from_sorted, Ascending-map, one_place}
use Rattle.bg_base.specs.declared.big.NodeRow.{NodeRow}
use Rattle.bg_base.specs.Bigraph.{node_cmp, row_of}
use Rattle.bg_base.specs.Translation.{node_numbers}
use Rattle.bg_base.proofs.LookUps.{row_of-search}
use Rattle.bg_rules.proofs.Copies.{At-position}
use Rattle.bg_react.specs.Copying.{rank_in}

numbers_ascend : (rows : List NodeRow) → IsStrictlySortedBy node_cmp rows → Ascending (λ x y. nat_cmp x y ≡ Less) (node_numbers rows)
numbers_ascend rows up =
    Ascending-map {Under = λ x y. nat_cmp x y ≡ Less} (λ (row : NodeRow). row.id) rows (λ x y less. less) (Ascending-from_sorted rows up)

not_below_itself : (x : ℕ) → nat_cmp x x ≡ Less → ⊥
not_below_itself x e = let less : x < x = lt-from_nat_cmp x x e in omega (arith, less)

-- where a row of the node stands is its rank
rank_at : (rows : List NodeRow) (at node : ℕ) (d : NodeRow) → IsStrictlySortedBy node_cmp rows → at < length rows → nat_cmp (get_or rows at d).id node ≡ Equal
    → at ≡ rank_in rows node
rank_at rows at node d up below tied =
    let same : (get_or rows at d).id ≡ node = eqb-true (get_or rows at d).id node (eqb-nat_cmp (get_or rows at d).id node ∙ ap is_eq tied) in
    let there : At node at (node_numbers rows) = At-same same (At-map (λ (row : NodeRow). row.id) (At-get_or rows at d below)) in
    one_place {Below = λ x y. nat_cmp x y ≡ Less} (node_numbers rows) not_below_itself (numbers_ascend rows up) there
    (At-position (node_numbers rows) (Mem-from_At there))

-- a node that is not there has all before it
position_of_none : (numbers : List ℕ) (node : ℕ) → ((other : ℕ) → Mem other numbers → (other == node) ≡ false)
    → position_or_len (λ other. other == node) numbers ≡ length numbers
position_of_none [] node none = refl
position_of_none (first ∷ numbers) node none =
    let head = none first (here refl) in
    let tail = position_of_none numbers node (λ other m. none other (there m)) in
    ap (λ b. cond (not b) (1 + position_or_len (λ other. other == node) numbers) 0) head ∙ omega (arith, tail)

rank_of_none : (rows : List NodeRow) (node : ℕ) → row_of rows node ≡ None → length rows ≡ rank_in rows node
rank_of_none rows node none =
    sym (position_of_none (node_numbers rows) node (λ other m. let w = Mem-unmap (λ (row : NodeRow). row.id) rows m in
    ap (λ n. n == node) (sym w.2) ∙ fails_from_find (λ (row : NodeRow). row.id == node) rows none w.1)
    ∙ length-map rows (λ (row : NodeRow). row.id))

pub rank-search : (rows : List NodeRow) (node : ℕ) → IsStrictlySortedBy node_cmp rows → (r : Result ℕ ℕ)
    → IsSearchInRange r (length rows) → IsBinarySearchResult (λ (row : NodeRow). nat_cmp row.id node) rows r
    → MatchResult r (λ at. at ≡ rank_in rows node) (λ _. length rows ≡ rank_in rows node)
rank-search rows node up (Ok at) range answer = let w = At-total rows at range in rank_at rows at node w.0 up range (answer w.0)
rank-search rows node up (Err at) range answer = rank_of_none rows node (row_of-search rows node up (Err at) range answer)

pub rank_within : (rows : List NodeRow) (node : ℕ) → rank_in rows node ≤ length rows
rank_within rows node = within (node_numbers rows) (length-map rows (λ (row : NodeRow). row.id))
  where
    below : (numbers : List ℕ) → position_or_len (λ other. other == node) numbers ≤ length numbers
    below [] = omega arith
    below (first ∷ numbers) =
        let tail = below numbers in
        cond_both (not (first == node)) (1 + position_or_len (λ other. other == node) numbers) 0 (λ n. n ≤ suc (length numbers))
        (λ _. omega (arith, tail)) (λ _. omega arith)

    within : (numbers : List ℕ) → length numbers ≡ length rows → position_or_len (λ other. other == node) numbers ≤ length rows
    within numbers long = let few = below numbers in omega (arith, few, long)
