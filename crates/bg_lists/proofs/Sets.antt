-- Laws of `set_of`: the members are the same, and they ascend.
use Rattle.std.proofs.Common.{◌≡◌, suc, ◌+◌, Bool, true, false, cond, Ordering, Less, Equal, is_eq, is_lt, List, [], ◌∷◌, get_or, IsPermutation, IsSortedBy, refl, sym, subst, ◌∙◌, ◌⊎◌, inl, inr, arith}
use Rattle.std.specs.Ordering.{eq_by_cmp}
use Rattle.std.specs.Cmp.{IsTotalOrder}
use Rattle.std.specs.List.{IsDistinct, dedup, dedup_from}
use Rattle.std.proofs.lemmas.Bool.{cond_both}
use Rattle.bg_lists.specs.Lists.{Mem, here, there, sort}
use Rattle.bg_lists.specs.Orders.{before, put_once, set_of, Ascending, asc_nil, asc_cons}
use Rattle.bg_lists.proofs.Comparisons.{Less-from_is_lt, Equal-from_is_eq, Less-from_not_before, Less-not_back}
use Rattle.bg_lists.proofs.Members.{Mem-cons_cases, Mem-same}
use Rattle.bg_lists.proofs.Ascents.{same_ascending}
use Rattle.bg_lists.proofs.Sorting.{Mem-sort, Mem-unsort, Ascending-sort}
use Rattle.bg_lists.proofs.Words.{Mem-permutation, Mem-unpermutation}

-- the comparison is total, and ties only what is equal
module _ {X : Type 0} {cmp : X → X → Ordering} (total : IsTotalOrder cmp) (exact : (x y : X) → cmp x y ≡ Equal → x ≡ y) where
  Kept : (x y : X) (ys : List X) → List X
  Kept x y ys = cond (is_eq (cmp x y)) (y ∷ ys) (y ∷ put_once cmp x ys)

  pub Mem-put_once_here : (x : X) (ys : List X) → Mem x (put_once cmp x ys)
  unfolding put_once Kept
  Mem-put_once_here x [] = here refl
  Mem-put_once_here x (y ∷ ys) =
      cond_both (is_lt (cmp x y)) (x ∷ y ∷ ys) (Kept x y ys) (λ zs. Mem x zs) (λ _. here refl)
      (λ _. cond_both (is_eq (cmp x y)) (y ∷ ys) (y ∷ put_once cmp x ys) (λ zs. Mem x zs)
      (λ tied. here (sym (exact x y (Equal-from_is_eq (cmp x y) tied)))) (λ _. there (Mem-put_once_here x ys)))

  pub Mem-put_once_there : {z : X} (x : X) (ys : List X) → Mem z ys → Mem z (put_once cmp x ys)
  unfolding put_once Kept
  Mem-put_once_there x [] m = elim m [ ]
  Mem-put_once_there {z} x (y ∷ ys) m =
      cond_both (is_lt (cmp x y)) (x ∷ y ∷ ys) (Kept x y ys) (λ zs. Mem z zs) (λ _. there m)
      (λ _. cond_both (is_eq (cmp x y)) (y ∷ ys) (y ∷ put_once cmp x ys) (λ zs. Mem z zs) (λ _. m)
      (λ _. elim (Mem-cons_cases m) [ inl e ↦ here e | inr n ↦ there (Mem-put_once_there x ys n) ]))

  pub Mem-unput_once : {z : X} (x : X) (ys : List X) → Mem z (put_once cmp x ys) → (x ≡ z) ⊎ Mem z ys
  unfolding put_once Kept
  Mem-unput_once x [] m = Mem-cons_cases m
  Mem-unput_once {z} x (y ∷ ys) m =
      cond_both (is_lt (cmp x y)) (x ∷ y ∷ ys) (Kept x y ys) (λ zs. Mem z zs → (x ≡ z) ⊎ Mem z (y ∷ ys))
      (λ _ k. Mem-cons_cases k)
      (λ _. cond_both (is_eq (cmp x y)) (y ∷ ys) (y ∷ put_once cmp x ys) (λ zs. Mem z zs → (x ≡ z) ⊎ Mem z (y ∷ ys))
      (λ _ k. inr k)
      (λ _ k. elim (Mem-cons_cases k) [
        | inl e ↦ inr (here e)
        | inr n ↦ elim (Mem-unput_once x ys n) [ inl e ↦ inl e | inr l ↦ inr (there l) ]
      ])) m

  below_both : {x y : X} {ys : List X} → cmp x y ≡ Less → ((z : X) → Mem z ys → cmp y z ≡ Less) → (z : X) → Mem z (y ∷ ys) → cmp x z ≡ Less
  below_both {x} less low z (here e) = subst (λ a. cmp x a ≡ Less) e less
  below_both {x} {y} less low z (there m) = total.trans x y z less (low z m)

  pub Ascending-put_once : (x : X) (ys : List X) → Ascending (λ a b. cmp a b ≡ Less) ys → Ascending (λ a b. cmp a b ≡ Less) (put_once cmp x ys)
  unfolding put_once Kept
  Ascending-put_once x [] up = asc_cons (λ z m. elim m [ ]) asc_nil
  Ascending-put_once x (y ∷ ys) (asc_cons low rest) =
      cond_both (is_lt (cmp x y)) (x ∷ y ∷ ys) (Kept x y ys) (λ zs. Ascending (λ a b. cmp a b ≡ Less) zs)
      (λ first. asc_cons (below_both (Less-from_is_lt (cmp x y) first) low) (asc_cons low rest))
      (λ later. cond_both (is_eq (cmp x y)) (y ∷ ys) (y ∷ put_once cmp x ys) (λ zs. Ascending (λ a b. cmp a b ≡ Less) zs)
      (λ _. asc_cons low rest)
      (λ apart. let less : cmp y x ≡ Less = Less-from_not_before total x y later apart in
      asc_cons (λ z m. elim (Mem-unput_once x ys m) [ inl e ↦ subst (λ a. cmp y a ≡ Less) e less | inr n ↦ low z n ])
      (Ascending-put_once x ys rest)))

  pub Mem-set_of : {x : X} (xs : List X) → Mem x xs → Mem x (set_of cmp xs)
  unfolding set_of
  Mem-set_of [] m = elim m [ ]
  Mem-set_of (y ∷ ys) (here e) = Mem-same e (Mem-put_once_here y (set_of cmp ys))
  Mem-set_of (y ∷ ys) (there m) = Mem-put_once_there y (set_of cmp ys) (Mem-set_of ys m)

  pub Mem-unset_of : {x : X} (xs : List X) → Mem x (set_of cmp xs) → Mem x xs
  unfolding set_of
  Mem-unset_of [] m = m
  Mem-unset_of (y ∷ ys) m = elim (Mem-unput_once y (set_of cmp ys) m) [ inl e ↦ here e | inr n ↦ there (Mem-unset_of ys n) ]

  pub Ascending-set_of : (xs : List X) → Ascending (λ a b. cmp a b ≡ Less) (set_of cmp xs)
  unfolding set_of
  Ascending-set_of [] = asc_nil
  Ascending-set_of (x ∷ xs) = Ascending-put_once x (set_of cmp xs) (Ascending-set_of xs)

  -- an ascending list with the same members is the set
  pub set_of-same : (xs ys : List X) → Ascending (λ a b. cmp a b ≡ Less) ys
      → ((x : X) → Mem x xs → Mem x ys) → ((x : X) → Mem x ys → Mem x xs) → set_of cmp xs ≡ ys
  set_of-same xs ys up into back =
      same_ascending (Less-not_back total) (set_of cmp xs) ys (Ascending-set_of xs) up
      (λ x m. into x (Mem-unset_of xs m)) (λ x m. Mem-set_of xs (back x m))

  -- where the members are apart it is the sorted list
  pub set_of-sort : (xs : List X) → IsDistinct (eq_by_cmp cmp) xs → set_of cmp xs ≡ sort (before cmp) xs
  set_of-sort xs distinct =
      set_of-same xs (sort (before cmp) xs) (Ascending-sort total xs distinct)
      (λ x m. Mem-sort (before cmp) xs m) (λ x m. Mem-unsort (before cmp) xs m)

  -- ---- a list that does not fall, with each member that is tied to the last one left out

  -- what is left of a list that does not fall stands above its first member
  module _ (test : X → X → Bool) (decides : (x y : X) → test x y ≡ eq_by_cmp cmp x y) where
    rest_rises : (x : X) (ys : List X) → IsSortedBy (before cmp) (x ∷ ys) → IsSortedBy (before cmp) ys
    rest_rises x ys rising =
        λ k d from below. let next : suc k + 1 ≡ suc (k + 1) = omega arith in
        subst (λ i. before cmp (get_or (x ∷ ys) i d) (get_or (x ∷ ys) (suc k) d) ≡ false) next (rising (suc k) d (omega arith) (omega arith))

    next_not_below : (x y : X) (ys : List X) → IsSortedBy (before cmp) (x ∷ y ∷ ys) → before cmp y x ≡ false
    next_not_below x y ys rising = rising 0 x (omega arith) (omega arith)

    equal : (x y : X) → test x y ≡ true → x ≡ y
    equal x y same = exact x y (Equal-from_is_eq (cmp x y) (sym (decides x y) ∙ same))

    next_below : (x y : X) (ys : List X) → IsSortedBy (before cmp) (x ∷ y ∷ ys) → test y x ≡ false → cmp x y ≡ Less
    next_below x y ys rising apart = Less-from_not_before total y x (next_not_below x y ys rising) (sym (decides y x) ∙ apart)

    -- the same list, where the first member stands in front of the next in place of one that is equal to it
    kept_rises : (x y : X) (ys : List X) → test y x ≡ true → IsSortedBy (before cmp) (x ∷ y ∷ ys) → IsSortedBy (before cmp) (x ∷ ys)
    kept_rises x y ys same rising = subst (λ z. IsSortedBy (before cmp) (z ∷ ys)) (equal y x same) (rest_rises x (y ∷ ys) rising)

    Mem-dedup_from : {z : X} (x : X) (ys : List X) → Mem z (x ∷ ys) → Mem z (dedup_from test x ys)
    Mem-dedup_from x [] m = m
    Mem-dedup_from {z} x (y ∷ ys) m =
        cond_both (test y x) (dedup_from test x ys) (x ∷ dedup_from test y ys) (λ zs. Mem z zs)
        (λ same. elim (Mem-cons_cases m) [
          | inl e ↦ Mem-dedup_from x ys (here e)
          | inr n ↦ elim (Mem-cons_cases n) [ inl e ↦ Mem-dedup_from x ys (here (sym (equal y x same) ∙ e)) | inr o ↦ Mem-dedup_from x ys (there o) ]
        ])
        (λ _. elim (Mem-cons_cases m) [ inl e ↦ here e | inr n ↦ there (Mem-dedup_from y ys n) ])

    Mem-undedup_from : {z : X} (x : X) (ys : List X) → Mem z (dedup_from test x ys) → Mem z (x ∷ ys)
    Mem-undedup_from x [] m = m
    Mem-undedup_from {z} x (y ∷ ys) m =
        cond_both (test y x) (dedup_from test x ys) (x ∷ dedup_from test y ys) (λ zs. Mem z zs → Mem z (x ∷ y ∷ ys))
        (λ _ k. elim (Mem-cons_cases (Mem-undedup_from x ys k)) [ inl e ↦ here e | inr n ↦ there (there n) ])
        (λ _ k. elim (Mem-cons_cases k) [ inl e ↦ here e | inr n ↦ there (Mem-undedup_from y ys n) ]) m

    -- what is left begins with the first member
    low_dedup_from : {z : X} (x : X) (ys : List X) → IsSortedBy (before cmp) (x ∷ ys) → Mem z (dedup_from test x ys) → (x ≡ z) ⊎ (cmp x z ≡ Less)
    low_dedup_from x [] rising m = elim (Mem-cons_cases m) [ inl e ↦ inl e | inr n ↦ elim n [ ] ]
    low_dedup_from {z} x (y ∷ ys) rising m =
        cond_both (test y x) (dedup_from test x ys) (x ∷ dedup_from test y ys) (λ zs. Mem z zs → (x ≡ z) ⊎ (cmp x z ≡ Less))
        (λ same k. low_dedup_from x ys (kept_rises x y ys same rising) k)
        (λ apart k. elim (Mem-cons_cases k) [
          | inl e ↦ inl e
          | inr n ↦ (let less = next_below x y ys rising apart in
              elim (low_dedup_from y ys (rest_rises x (y ∷ ys) rising) n) [
                | inl e ↦ inr (subst (λ a. cmp x a ≡ Less) e less)
                | inr more ↦ inr (total.trans x y z less more)
              ])
        ]) m

    Ascending-dedup_from : (x : X) (ys : List X) → IsSortedBy (before cmp) (x ∷ ys)
        → Ascending (λ a b. cmp a b ≡ Less) (dedup_from test x ys)
    Ascending-dedup_from x [] rising = asc_cons (λ z m. elim m [ ]) asc_nil
    Ascending-dedup_from x (y ∷ ys) rising =
        cond_both (test y x) (dedup_from test x ys) (x ∷ dedup_from test y ys) (λ zs. Ascending (λ a b. cmp a b ≡ Less) zs)
        (λ same. Ascending-dedup_from x ys (kept_rises x y ys same rising))
        (λ apart. let less = next_below x y ys rising apart in
        asc_cons (λ z m. elim (low_dedup_from y ys (rest_rises x (y ∷ ys) rising) m) [
          | inl e ↦ subst (λ a. cmp x a ≡ Less) e less
          | inr more ↦ total.trans x y z less more
        ]) (Ascending-dedup_from y ys (rest_rises x (y ∷ ys) rising)))

    kept_is_set : (xs ys : List X) → IsSortedBy (before cmp) ys → ((x : X) → Mem x xs → Mem x ys) → ((x : X) → Mem x ys → Mem x xs)
        → dedup test ys ≡ set_of cmp xs
    kept_is_set xs [] rising into back = sym (set_of-same xs [] asc_nil into back)
    kept_is_set xs (y ∷ ys) rising into back =
        sym (set_of-same xs (dedup_from test y ys) (Ascending-dedup_from y ys rising)
        (λ x m. Mem-dedup_from y ys (into x m)) (λ x m. back x (Mem-undedup_from y ys m)))

    -- what a sort and then `dedup` leave is the set
    pub set_from_dedup : (xs ys : List X) → IsPermutation xs ys → IsSortedBy (before cmp) ys → dedup test ys ≡ set_of cmp xs
    set_from_dedup xs ys moved rising =
        kept_is_set xs ys rising (λ x m. Mem-permutation xs ys moved m) (λ x m. Mem-unpermutation xs ys moved m)
