-- Laws of a part of a list: what stands in it, there and back, and that it ascends where the list does.
use Rattle.std.proofs.Common.{◌≡◌, ℕ, zero, suc, ◌+◌, ◌-◌, ◌<◌, ◌≤◌, Ordering, Some, List, [], ◌∷◌, take, drop, slice_get, refl, subst, arith}
use Rattle.std.specs.List.Sorted.{IsStrictlySortedBy}
use Rattle.bg_lists.specs.Lists.{Mem, At, at_here, at_there}
use Rattle.bg_lists.specs.Orders.{Ascending, asc_nil, asc_cons}
use Rattle.bg_lists.proofs.Ascents.{Ascending-from_sorted, sorted_from_Ascending}
use Rattle.bg_lists.proofs.Places.{Mem-from_At, At-from_Mem, At-slice_get, slice_get-At}

module _ {X : Type 0} where
  pub At-drop : {x : X} {j : ℕ} (n i : ℕ) (xs : List X) → j ≡ n + i → At x j xs → At x i (drop n xs)
  At-drop {x} {j} zero i xs e a = let same : j ≡ i = omega arith in subst (λ k. At x k xs) same a
  At-drop (suc n) i [] e a = elim a [ ]
  At-drop (suc n) i (y ∷ ys) e (at_here f) = absurd (omega arith)
  At-drop (suc n) i (y ∷ ys) e (at_there a) = At-drop n i ys (omega arith) a

  pub At-undrop : {x : X} (n i j : ℕ) (xs : List X) → j ≡ n + i → At x i (drop n xs) → At x j xs
  At-undrop {x} zero i j xs e a = let same : i ≡ j = omega arith in subst (λ k. At x k xs) same a
  At-undrop (suc n) i j [] e a = elim a [ ]
  At-undrop (suc n) i zero (y ∷ ys) e a = absurd (omega arith)
  At-undrop (suc n) i (suc j) (y ∷ ys) e a = at_there (At-undrop n i j ys (omega arith) a)

  pub At-take : {x : X} {i : ℕ} (n : ℕ) (xs : List X) → i < n → At x i xs → At x i (take n xs)
  At-take zero xs less a = absurd (omega arith)
  At-take (suc n) [] less a = elim a [ ]
  At-take (suc n) (y ∷ ys) less (at_here e) = at_here e
  At-take (suc n) (y ∷ ys) less (at_there a) = at_there (At-take n ys (omega arith) a)

  pub At-untake : {x : X} {i : ℕ} (n : ℕ) (xs : List X) → At x i (take n xs) → At x i xs
  At-untake zero xs a = elim a [ ]
  At-untake (suc n) [] a = elim a [ ]
  At-untake (suc n) (y ∷ ys) (at_here e) = at_here e
  At-untake (suc n) (y ∷ ys) (at_there a) = at_there (At-untake n ys a)

  pub Mem-untake : {x : X} (n : ℕ) (xs : List X) → Mem x (take n xs) → Mem x xs
  Mem-untake n xs m = Mem-from_At (At-untake n xs (At-from_Mem m).1)

  pub Ascending-drop : {Below : X → X → Type 0} (n : ℕ) (xs : List X) → Ascending Below xs → Ascending Below (drop n xs)
  Ascending-drop zero xs up = up
  Ascending-drop (suc n) [] up = asc_nil
  Ascending-drop (suc n) (x ∷ xs) (asc_cons low rest) = Ascending-drop n xs rest

  pub Ascending-take : {Below : X → X → Type 0} (n : ℕ) (xs : List X) → Ascending Below xs → Ascending Below (take n xs)
  Ascending-take zero xs up = asc_nil
  Ascending-take (suc n) [] up = asc_nil
  Ascending-take (suc n) (x ∷ xs) (asc_cons low rest) =
      asc_cons (λ y m. low y (Mem-untake n xs m)) (Ascending-take n xs rest)

  -- a part of what ascends does
  pub sorted-part : (cmp : X → X → Ordering) (from count : ℕ) (xs : List X) → IsStrictlySortedBy cmp xs
      → IsStrictlySortedBy cmp (take count (drop from xs))
  sorted-part cmp from count xs up =
      sorted_from_Ascending _ (Ascending-take count (drop from xs) (Ascending-drop from xs (Ascending-from_sorted xs up)))

  -- what stands in a part of a list stands behind the front
  pub from_part : {x : X} (from count at : ℕ) (xs : List X) → slice_get (take count (drop from xs)) at ≡ Some x
      → slice_get xs (from + at) ≡ Some x
  from_part from count at xs e =
      slice_get-At xs (At-undrop from at (from + at) xs refl (At-untake count (drop from xs) (At-slice_get at (take count (drop from xs)) e)))

  pub in_part : {x : X} (from to at : ℕ) (xs : List X) → from ≤ at → at < to → At x at xs → Mem x (take (to - from) (drop from xs))
  in_part from to at xs low high a =
      Mem-from_At (At-take (to - from) (drop from xs) (omega arith) (At-drop from (at - from) xs (omega arith) a))
