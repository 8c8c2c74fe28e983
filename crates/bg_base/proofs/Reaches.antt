-- Where an item stands among items that ascend by numbers, told by its number and by that of the last.
use Rattle.std.proofs.Common.{◌≡◌, ℕ, ◌+◌, ◌-◌, ◌<◌, ◌≤◌, Bool, true, false, ◌==◌, Less, nat_cmp, Option, Some, None, is_some, find, eqb-true, List, [], ◌∷◌, length, take, drop, slice_get, refl, sym, ap, subst, ◌∙◌, arith}
use Rattle.std.specs.Ordering.{on}
use Rattle.std.specs.List.Sorted.{IsStrictlySortedBy}
use Rattle.std.proofs.lemmas.Bool.{false_from_ne_true}
use Rattle.bg_lists.specs.Lists.{Mem, here, there, At, at_here, at_there}
use Rattle.bg_lists.specs.Orders.{Ascending, asc_cons}
use Rattle.bg_lists.proofs.Ascents.{Ascending-from_sorted, same_member}
use Rattle.bg_lists.proofs.Comparisons.{lt-from_nat_cmp, tied_numbers}
use Rattle.bg_lists.proofs.Parts.{from_part, in_part}
use Rattle.bg_lists.proofs.Words.{member_from_find, is_some_find, find-only, find-none}
use Rattle.bg_lists.proofs.Places.{Mem-from_At, At-from_Mem, At-below, At-slice_get, slice_get-At}

-- ---- numbers that rise

module _ {X : Type 0} (number : X → ℕ) where
  rises : {x : X} {at : ℕ} (base : ℕ) (xs : List X) → Ascending (λ a b. on number nat_cmp a b ≡ Less) xs
      → ((y : X) → Mem y xs → base ≤ number y) → At x at xs → base + at ≤ number x
  rises base [] up least a = elim a [ ]
  rises {x} base (y ∷ ys) up least (at_here e) = subst (λ z. base + 0 ≤ number z) e (let low = least y (here refl) in omega arith)
  rises base (y ∷ ys) (asc_cons low rest) least (at_there a) =
      let above = rises (base + 1) ys rest
      (λ z m. let first = least y (here refl) in let less = lt-from_nat_cmp (number y) (number z) (low z m) in omega arith) a in
      omega arith

  -- a number is no less than the position of its item
  pub position_at_most : {x : X} {at : ℕ} (xs : List X) → IsStrictlySortedBy (on number nat_cmp) xs → At x at xs → at ≤ number x
  position_at_most xs up a = let above = rises 0 xs (Ascending-from_sorted xs up) (λ y m. omega arith) a in omega arith

  least_first : (z : X) (zs : List X) → ((w : X) → Mem w zs → on number nat_cmp z w ≡ Less) → (w : X) → Mem w (z ∷ zs) → number z ≤ number w
  least_first z zs low w (here e) = subst (λ v. number z ≤ number v) e (omega arith)
  least_first z zs low w (there m) = let less = lt-from_nat_cmp (number z) (number w) (low w m) in omega arith

  between : {x y : X} {i j : ℕ} (xs : List X) → Ascending (λ a b. on number nat_cmp a b ≡ Less) xs → At x i xs → At y j xs
      → i ≤ j → number x + (j - i) ≤ number y
  between [] up a b order = elim a [ ]
  between {x} {y} {j = j} (z ∷ zs) (asc_cons low rest) (at_here e) b order =
      subst (λ w. number w + (j - 0) ≤ number y) e
      (let above = rises (number z) (z ∷ zs) (asc_cons low rest) (least_first z zs low) b in omega arith)
  between (z ∷ zs) up (at_there a) (at_here f) order = absurd (omega arith)
  between (z ∷ zs) (asc_cons low rest) (at_there a) (at_there b) order = let inside = between zs rest a b (omega arith) in omega arith

  -- from an item to the last one the numbers rise by as much as the positions, or more
  pub last_at_least : {x last : X} {at : ℕ} (xs : List X) → IsStrictlySortedBy (on number nat_cmp) xs → At x at xs
      → slice_get xs (length xs - 1) ≡ Some last → number x + (length xs - (at + 1)) ≤ number last
  last_at_least {x} xs up a e =
      let below = At-below a in
      let apart = between xs (Ascending-from_sorted xs up) a (At-slice_get (length xs - 1) xs e) (omega arith) in
      omega arith

-- where the last item is known, and where the item of the number can stand: it is found there
module _ {X : Type 0} (number : X → ℕ) (xs : List X) (wanted from to : ℕ) (last : X) (up : IsStrictlySortedBy (on number nat_cmp) xs)
    (is_last : slice_get xs (length xs - 1) ≡ Some last)
    (inside : (at : ℕ) → at < length xs → at ≤ wanted → wanted + (length xs - (at + 1)) ≤ number last → (from ≤ at) × (at < to)) where
  stands_inside : (x : X) (at : ℕ) → At x at xs → number x ≡ wanted → (from ≤ at) × (at < to)
  stands_inside x at a e =
      let low = position_at_most number xs up a in
      let high = last_at_least number xs up a is_last in
      inside at (At-below a) (omega arith) (omega arith)

  abbrev is_wanted : X → Bool
  is_wanted x = number x == wanted

  abbrev part : List X
  part = take (to - from) (drop from xs)

  of_part : (x : X) → Mem x part → Mem x xs
  of_part x m =
      let w = At-from_Mem m in
      Mem-from_At (At-slice_get (from + w.0) xs (from_part from (to - from) w.0 xs (slice_get-At part w.1)))

  one_wanted : (x y : X) → Mem x xs → Mem y xs → number x ≡ wanted → number y ≡ wanted → y ≡ x
  one_wanted x y m n e f =
      same_member {cmp = on number nat_cmp} (Ascending-from_sorted xs up) n m
      (tied_numbers (number y) (number x) (f ∙ sym e)) (tied_numbers (number x) (number y) (e ∙ sym f))

  found_there : (o : Option X) → find is_wanted xs ≡ o → find is_wanted part ≡ o
  found_there (Some x) e =
      let w = member_from_find is_wanted xs x e in
      let number_is = eqb-true (number x) wanted w.1 in
      let at = At-from_Mem w.0 in
      let bounds = stands_inside x at.0 at.1 number_is in
      find-only is_wanted part (in_part from to at.0 xs bounds.0 bounds.1 at.1) w.1
      (λ y m pass. one_wanted x y w.0 (of_part y m) number_is (eqb-true (number y) wanted pass))
  found_there None e =
      find-none is_wanted part (λ y m. false_from_ne_true (is_wanted y) (λ pass.
      let bad : false ≡ true = sym (ap is_some e) ∙ is_some_find is_wanted xs (of_part y m) pass in cc))

  pub find-in_part : find (λ x. number x == wanted) (take (to - from) (drop from xs)) ≡ find (λ x. number x == wanted) xs
  find-in_part = found_there (find is_wanted xs) refl
