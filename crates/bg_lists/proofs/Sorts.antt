-- What std's sorts leave is the sorted list.
use Rattle.std.proofs.Common.{◌≡◌, ◌+◌, false, Ordering, Less, List, [], ◌∷◌, get_or, IsPermutation, IsSortedBy, sym, ◌∙◌, arith}
use Rattle.std.specs.Ordering.{eq_by_cmp}
use Rattle.std.specs.Cmp.{IsTotalOrder}
use Rattle.std.specs.List.{IsDistinct}
use Rattle.std.proofs.lemmas.Map.Keys.{sorted_from_all_adjacent, apart_from_distinct, IsDistinct-IsPermutation}
use Rattle.bg_lists.specs.Lists.{sort}
use Rattle.bg_lists.specs.Orders.{before, Ascending, asc_nil}
use Rattle.bg_lists.proofs.Comparisons.{Less-from_not_before, apart_back}
use Rattle.bg_lists.proofs.Ascents.{Ascending-from_sorted}
use Rattle.bg_lists.proofs.Sorting.{sort-same}
use Rattle.bg_lists.proofs.Words.{Mem-permutation, Mem-unpermutation}

module _ {X : Type 0} {cmp : X → X → Ordering} (total : IsTotalOrder cmp) where
  -- a list that does not fall, and whose members are apart, ascends
  pub Ascending-from_rising : (xs : List X) → IsDistinct (eq_by_cmp cmp) xs → IsSortedBy (before cmp) xs
      → Ascending (λ a b. cmp a b ≡ Less) xs
  Ascending-from_rising [] distinct rising = asc_nil
  Ascending-from_rising (x ∷ xs) distinct rising =
      Ascending-from_sorted (x ∷ xs)
      (sorted_from_all_adjacent total (x ∷ xs) x
      (λ k below. let apart : eq_by_cmp cmp (get_or (x ∷ xs) k x) (get_or (x ∷ xs) (k + 1) x) ≡ false
      = apart_from_distinct (eq_by_cmp cmp) (x ∷ xs) k (k + 1) x distinct (omega arith) below in
      Less-from_not_before total (get_or (x ∷ xs) (k + 1) x) (get_or (x ∷ xs) k x)
      (rising k x (omega arith) below) (apart_back total _ _ ∙ apart)))

  -- what a sort leaves of members that are apart
  pub sorted_by : (xs ys : List X) → IsDistinct (eq_by_cmp cmp) xs → IsPermutation xs ys → IsSortedBy (before cmp) ys
      → ys ≡ sort (before cmp) xs
  sorted_by xs ys distinct moved rising =
      sym (sort-same total xs ys distinct
      (Ascending-from_rising ys (IsDistinct-IsPermutation (eq_by_cmp cmp) (apart_back total) xs ys moved distinct) rising)
      (λ x m. Mem-permutation xs ys moved m) (λ x m. Mem-unpermutation xs ys moved m))
