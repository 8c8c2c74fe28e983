-- Two ascending lists in order: the lower of their heads is the head of both in order.
use Rattle.std.proofs.Common.{◌≡◌, ℕ, ◌<◌, ◌≤◌, nat_lt, nat_cmp, Bool, true, false, Ordering, Less, is_lt, List, [], ◌∷◌, ◌++◌, length, get_or, Option, Some, None, IsSome, IfNone, option_to_list, refl, sym, ap, subst, ◌∙◌, inl, inr, arith}
use Rattle.std.specs.Cmp.{IsTotalOrder}
use Rattle.std.specs.List.Sorted.{IsStrictlySortedBy}
use Rattle.std.proofs.lemmas.Bool.{cond-false, true≢false, false≢true, false_from_ne_true}
use Rattle.std.proofs.lemmas.Bool.Decides.{nat_tests}
use Rattle.std.proofs.lemmas.List.{append-nil}
use Rattle.std.proofs.lemmas.Cmp.{on_total, nat_cmp_total}
use Rattle.bg_lists.specs.Lists.{Mem, here, there, put, sort}
use Rattle.bg_lists.specs.Orders.{before, by_number, first_leads, Ascending, asc_cons}
use Rattle.bg_lists.proofs.Comparisons.{Less-from_before, before-Less}
use Rattle.bg_lists.proofs.Members.{Mem-append_cases}
use Rattle.bg_lists.proofs.Ascents.{Ascending-from_sorted}
use Rattle.bg_lists.proofs.Sorting.{Mem-unsort, put-lowest}

module _ {X : Type 0} {cmp : X → X → Ordering} (total : IsTotalOrder cmp) where
  -- one that stands below all others comes first, wherever it was
  pub sort-lowest : (x : X) (xs : List X) → ((y : X) → Mem y xs → cmp x y ≡ Less) → sort (before cmp) (x ∷ xs) ≡ x ∷ sort (before cmp) xs
  unfolding sort
  sort-lowest x xs low = put-lowest total x (sort (before cmp) xs) (λ y m. low y (Mem-unsort (before cmp) xs m))

  pub sort-lowest_behind : (xs : List X) (y : X) (ys : List X) → ((x : X) → Mem x xs → before cmp x y ≡ false)
      → ((z : X) → Mem z ys → cmp y z ≡ Less) → sort (before cmp) (xs ++ y ∷ ys) ≡ y ∷ sort (before cmp) (xs ++ ys)
  unfolding sort put
  sort-lowest_behind [] y ys behind low = sort-lowest y ys low
  sort-lowest_behind (x ∷ xs) y ys behind low =
      ap (λ zs. put (before cmp) x zs) (sort-lowest_behind xs y ys (λ z m. behind z (there m)) low)
      ∙ cond-false (before cmp x y) _ _ (behind x (here refl))

  -- of two ascending lists, the head of the first stands below the head of the second
  sort-first : (x : X) (xs ys : List X) → Ascending (λ a b. cmp a b ≡ Less) (x ∷ xs) → ((y : X) → Mem y ys → cmp x y ≡ Less)
      → sort (before cmp) ((x ∷ xs) ++ ys) ≡ x ∷ sort (before cmp) (xs ++ ys)
  sort-first x xs ys (asc_cons low rest) below =
      sort-lowest x (xs ++ ys) (λ z m. elim (Mem-append_cases xs ys m) [ inl k ↦ low z k | inr k ↦ below z k ])

  -- the one that is not behind the head of an ascending list is not behind its members
  behind_all : (x : X) (xs : List X) (y : X) → Ascending (λ a b. cmp a b ≡ Less) (x ∷ xs) → before cmp x y ≡ false
      → (z : X) → Mem z (x ∷ xs) → before cmp z y ≡ false
  behind_all x xs y up later z (here e) = subst (λ a. before cmp a y ≡ false) e later
  behind_all x xs y (asc_cons low rest) later z (there m) =
      false_from_ne_true (before cmp z y)
      (λ first. let less : cmp x y ≡ Less = total.trans x z y (low z m) (Less-from_before cmp z y first) in
      false≢true (sym later ∙ before-Less cmp x y less))

  below_all : (x y : X) (ys : List X) → Ascending (λ a b. cmp a b ≡ Less) (y ∷ ys) → before cmp x y ≡ true
      → (z : X) → Mem z (y ∷ ys) → cmp x z ≡ Less
  below_all x y ys up first z (here e) = subst (λ a. cmp x a ≡ Less) e (Less-from_before cmp x y first)
  below_all x y ys (asc_cons low rest) first z (there m) = total.trans x y z (Less-from_before cmp x y first) (low z m)

-- ---- by a number

pub by_number_total : {X : Type 0} (number : X → ℕ) → IsTotalOrder (by_number number)
by_number_total number = on_total number nat_cmp_total

nat_lt-nat_cmp : (m n : ℕ) → nat_lt m n ≡ is_lt (nat_cmp m n)
nat_lt-nat_cmp m n = grind (arith, nat_tests)

module _ {X : Type 0} (number : X → ℕ) where
  pub leads-both : (xs ys : List X) (x y : X) → 0 < length xs → 0 < length ys → x ≡ get_or xs 0 x → y ≡ get_or ys 0 y
      → nat_lt (number x) (number y) ≡ first_leads number xs ys
  unfolding first_leads
  leads-both [] ys x y some other d e = absurd (omega arith)
  leads-both (v ∷ xs) [] x y some other d e = absurd (omega arith)
  leads-both (v ∷ xs) (w ∷ ys) x y some other d e =
      ap (λ z. nat_lt (number z) (number y)) d ∙ ap (λ z. nat_lt (number v) (number z)) e ∙ nat_lt-nat_cmp (number v) (number w)

  pub leads-first : (xs ys : List X) → 0 < length xs → length ys ≤ 0 → true ≡ first_leads number xs ys
  unfolding first_leads
  leads-first [] ys some none = absurd (omega arith)
  leads-first (x ∷ xs) [] some none = refl
  leads-first (x ∷ xs) (y ∷ ys) some none = absurd (omega arith)

  pub leads-none : (xs ys : List X) → length xs ≤ 0 → false ≡ first_leads number xs ys
  unfolding first_leads
  leads-none [] ys none = refl
  leads-none (x ∷ xs) ys none = absurd (omega arith)

  first_in_order : (x : X) (xs ys : List X) → Ascending (λ a b. by_number number a b ≡ Less) (x ∷ xs)
      → Ascending (λ a b. by_number number a b ≡ Less) ys → first_leads number (x ∷ xs) ys ≡ true
      → sort (before (by_number number)) ((x ∷ xs) ++ ys) ≡ x ∷ sort (before (by_number number)) (xs ++ ys)
  unfolding first_leads
  first_in_order x xs [] up vp leads = sort-first (by_number_total number) x xs [] up (λ z m. elim m [ ])
  first_in_order x xs (y ∷ ys) up vp leads =
      sort-first (by_number_total number) x xs (y ∷ ys) up (below_all (by_number_total number) x y ys vp leads)

  second_in_order : (xs : List X) (y : X) (ys : List X) → Ascending (λ a b. by_number number a b ≡ Less) xs
      → Ascending (λ a b. by_number number a b ≡ Less) (y ∷ ys) → first_leads number xs (y ∷ ys) ≡ false
      → sort (before (by_number number)) (xs ++ y ∷ ys) ≡ y ∷ sort (before (by_number number)) (xs ++ ys)
  unfolding first_leads
  second_in_order [] y ys up (asc_cons low rest) leads =
      sort-lowest_behind (by_number_total number) [] y ys (λ z m. elim m [ ]) low
  second_in_order (x ∷ xs) y ys up (asc_cons low rest) leads =
      sort-lowest_behind (by_number_total number) (x ∷ xs) y ys (behind_all (by_number_total number) x xs y up leads) low

  -- the head of the first is taken, or the head of the second
  pub take_first : (xs ys rest : List X) (r : Option X) → xs ≡ option_to_list r ++ rest → IsStrictlySortedBy (by_number number) xs
      → IsStrictlySortedBy (by_number number) ys → first_leads number xs ys ≡ true
      → option_to_list r ++ sort (before (by_number number)) (rest ++ ys) ≡ sort (before (by_number number)) (xs ++ ys)
  take_first xs ys rest None e up vp leads = ap (λ zs. sort (before (by_number number)) (zs ++ ys)) (sym e)
  take_first xs ys rest (Some x) e up vp leads =
      let sorted = subst (IsStrictlySortedBy (by_number number)) e up in
      sym (first_in_order x rest ys (Ascending-from_sorted (x ∷ rest) sorted) (Ascending-from_sorted ys vp)
      (subst (λ zs. first_leads number zs ys ≡ true) e leads))
      ∙ ap (λ zs. sort (before (by_number number)) (zs ++ ys)) (sym e)

  pub take_second : (xs ys rest : List X) (r : Option X) → ys ≡ option_to_list r ++ rest → IsStrictlySortedBy (by_number number) xs
      → IsStrictlySortedBy (by_number number) ys → first_leads number xs ys ≡ false
      → option_to_list r ++ sort (before (by_number number)) (xs ++ rest) ≡ sort (before (by_number number)) (xs ++ ys)
  take_second xs ys rest None e up vp leads = ap (λ zs. sort (before (by_number number)) (xs ++ zs)) (sym e)
  take_second xs ys rest (Some y) e up vp leads =
      let sorted = subst (IsStrictlySortedBy (by_number number)) e vp in
      sym (second_in_order xs y rest (Ascending-from_sorted xs up) (Ascending-from_sorted (y ∷ rest) sorted)
      (subst (λ zs. first_leads number xs zs ≡ false) e leads))
      ∙ ap (λ zs. sort (before (by_number number)) (xs ++ zs)) (sym e)

  -- none is taken only where none is left
  pub none_first : (xs ys rest : List X) (r : Option X) → (0 < length xs → IsSome r) → first_leads number xs ys ≡ true
      → IfNone r (rest ++ ys ≡ [])
  unfolding first_leads
  none_first [] ys rest r some leads = absurd (false≢true leads)
  none_first (x ∷ xs) ys rest None some leads = absurd (false≢true (some (omega arith)))
  none_first (x ∷ xs) ys rest (Some y) some leads = tt

  pub none_second : (xs ys rest : List X) (r : Option X) → ys ≡ option_to_list r ++ rest → (0 < length ys → IsSome r)
      → first_leads number xs ys ≡ false → IfNone r (xs ++ rest ≡ [])
  unfolding first_leads
  none_second [] [] rest None e some leads = sym e
  none_second [] (y ∷ ys) rest None e some leads = absurd (false≢true (some (omega arith)))
  none_second (x ∷ xs) [] rest None e some leads = absurd (true≢false leads)
  none_second (x ∷ xs) (y ∷ ys) rest None e some leads = absurd (false≢true (some (omega arith)))
  none_second xs ys rest (Some y) e some leads = tt

  pub sorted_rest : (xs rest : List X) (r : Option X) → xs ≡ option_to_list r ++ rest → IsStrictlySortedBy (by_number number) xs
      → IsStrictlySortedBy (by_number number) rest
  unfolding IsStrictlySortedBy
  sorted_rest xs rest None e up = subst (IsStrictlySortedBy (by_number number)) e up
  sorted_rest xs rest (Some x) e up = let sorted : IsStrictlySortedBy (by_number number) (x ∷ rest) = subst (IsStrictlySortedBy (by_number number)) e up in sorted.1

pub sort-none : {X : Type 0} (test : X → X → Bool) (xs : List X) → xs ≡ [] → sort test xs ≡ []
unfolding sort
sort-none test xs e = ap (sort test) e

-- where no more is left, all is made
pub all_made : {X : Type 0} (made left whole : List X) → left ≡ [] → made ++ left ≡ whole → made ≡ whole
all_made made left whole none all = let joined : made ++ [] ≡ whole = subst (λ zs. made ++ zs ≡ whole) none all in sym (append-nil made) ∙ joined
