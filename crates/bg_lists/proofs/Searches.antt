-- What std's binary search answers is what `find` finds.
use Rattle.std.proofs.Common.{◌≡◌, ℕ, ◌+◌, ◌<◌, Bool, true, false, Ordering, Less, Equal, Greater, List, length, get_or, find, is_some, is_ok, Some, None, Result, Ok, Err, MatchResult, IsSortedBy, is_lt, is_eq, refl, sym, ap, subst, ◌∙◌, inl, inr, arith}
use Rattle.std.specs.Ordering.{on, ordering_reverse}
use Rattle.std.specs.Cmp.{IsTotalOrder}
use Rattle.std.specs.List.Sorted.{IsBinarySearchResult, IsSearchInRange, IsPartitionPoint}
use Rattle.std.proofs.lemmas.Cmp.{on_total, tied_back}
use Rattle.std.proofs.lemmas.Bool.{cases_lt}
use Rattle.std.proofs.lemmas.List.Sorted.{searchable_from_sorted}
use Rattle.bg_lists.specs.Lists.{Mem}
use Rattle.bg_lists.specs.Orders.{Ascending}
use Rattle.bg_lists.proofs.Comparisons.{Equal-from_is_eq}
use Rattle.bg_lists.proofs.Places.{Mem-from_At, At-from_Mem, At-below, At-total, At-get_or, get_or-At}
use Rattle.bg_lists.proofs.Ascents.{Below-by_places, same_member}
use Rattle.bg_lists.proofs.Words.{find-only, find-none}

reversed_less : (o p : Ordering) → o ≡ ordering_reverse p → p ≡ Less → is_lt o ≡ false
reversed_less o Less e f = ap is_lt e
reversed_less o Equal e f = cc
reversed_less o Greater e f = cc

-- an ascending list does not fall
pub rising_from_Ascending : {X : Type 0} {cmp : X → X → Ordering} → IsTotalOrder cmp → (xs : List X)
    → Ascending (λ a b. cmp a b ≡ Less) xs → IsSortedBy (λ a b. is_lt (cmp a b)) xs
rising_from_Ascending {cmp = cmp} total xs up k d low below =
    let less : cmp (get_or xs k d) (get_or xs (k + 1) d) ≡ Less
    = Below-by_places xs up (At-get_or xs k d (omega arith)) (At-get_or xs (k + 1) d below) (omega arith) in
    reversed_less _ (cmp (get_or xs k d) (get_or xs (k + 1) d)) (total.antisymm _ _) less

-- rows that ascend by a key, and a test that passes the rows of the key that is looked for
module _ {X K : Type 0} {R : K → K → Ordering} (total : IsTotalOrder R) (key : X → K) (wanted : K) (test : X → Bool)
    (tests : (x : X) → test x ≡ is_eq (R (key x) wanted)) (xs : List X) (up : Ascending (λ a b. R (key a) (key b) ≡ Less) xs) where
  both_wanted : (x y : X) → R (key x) wanted ≡ Equal → R (key y) wanted ≡ Equal → is_eq (R (key x) (key y)) ≡ true
  both_wanted x y e f =
      let same : R (key x) (key y) ≡ Equal = total.congr (key x) wanted (key y) e ∙ tied_back total (key y) wanted f in
      ap is_eq same

  pub find-at : (i : ℕ) (d : X) → i < length xs → R (key (get_or xs i d)) wanted ≡ Equal → find test xs ≡ Some (get_or xs i d)
  find-at i d below tied =
      let m : Mem (get_or xs i d) xs = Mem-from_At (At-get_or xs i d below) in
      find-only test xs m (tests (get_or xs i d) ∙ ap is_eq tied)
      (λ y n pass. let also : R (key y) wanted ≡ Equal = Equal-from_is_eq (R (key y) wanted) (sym (tests y) ∙ pass) in
      same_member {cmp = on key R} up n m (both_wanted y (get_or xs i d) also tied) (both_wanted (get_or xs i d) y tied also))

  not_wanted : (o : Ordering) (x : X) → R (key x) wanted ≡ o → is_eq o ≡ false → test x ≡ false
  not_wanted o x e f = tests x ∙ ap is_eq e ∙ f

  pub find-nowhere : (i : ℕ) → IsPartitionPoint (λ y. R (key y) wanted ≡ Less) (λ y. R (key y) wanted ≡ Greater) xs i → find test xs ≡ None
  find-nowhere i parts =
      find-none test xs (λ x m. let w = At-from_Mem m in
      elim (cases_lt w.0 i) [
        | inl less ↦ not_wanted Less x (subst (λ z. R (key z) wanted ≡ Less) (get_or-At xs x w.1) (parts.0 w.0 x (omega arith) less)) refl
        | inr more ↦ not_wanted Greater x (subst (λ z. R (key z) wanted ≡ Greater) (get_or-At xs x w.1) (parts.1 w.0 x more (At-below w.1))) refl
      ])

  -- what a binary search answers
  pub find-search : (r : Result ℕ ℕ) → IsSearchInRange r (length xs) → IsBinarySearchResult (λ y. R (key y) wanted) xs r
      → MatchResult r (λ i. (d : X) → find test xs ≡ Some (get_or xs i d)) (λ _. find test xs ≡ None)
  find-search (Ok i) range answer = λ d. find-at i d range (answer d)
  find-search (Err i) range answer =
      find-nowhere i (answer (searchable_from_sorted total key xs wanted (rising_from_Ascending (on_total key total) xs up)))

  pub is_some_find-search : (r : Result ℕ ℕ) → IsSearchInRange r (length xs) → IsBinarySearchResult (λ y. R (key y) wanted) xs r
      → is_ok r ≡ is_some (find test xs)
  is_some_find-search (Ok i) range answer =
      let w = At-total xs i range in sym (ap is_some (find-search (Ok i) range answer w.0))
  is_some_find-search (Err i) range answer =
      let none : find test xs ≡ None
      = find-nowhere i (answer (searchable_from_sorted total key xs wanted (rising_from_Ascending (on_total key total) xs up))) in
      sym (ap is_some none)
