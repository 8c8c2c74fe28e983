-- Laws of `put` and `sort`: the members stay, their number stays, and they ascend where they are apart.
use Rattle.std.proofs.Common.{◌≡◌, suc, Bool, false, cond, Ordering, Less, is_eq, List, [], ◌∷◌, ◌++◌, map, length, refl, sym, ap, subst, ◌∙◌, ◌⊎◌, inl, inr}
use Rattle.std.specs.Ordering.{eq_by_cmp}
use Rattle.std.specs.Cmp.{IsTotalOrder}
use Rattle.std.specs.List.{IsDistinct}
use Rattle.std.proofs.lemmas.Bool.{cond_both, cond-true, cond-false}
use Rattle.bg_lists.specs.Lists.{Mem, here, there, put, sort}
use Rattle.bg_lists.specs.Orders.{before, Ascending, asc_nil, asc_cons}
use Rattle.bg_lists.proofs.Comparisons.{Less-from_before, before-Less, Less-from_not_before, Less-not_back}
use Rattle.bg_lists.proofs.Members.{Mem-cons_cases, Mem-same, Mem-append_cases, Mem-unmap}
use Rattle.bg_lists.proofs.Ascents.{member_of_all, all_of_members, same_ascending}

module _ {X : Type 0} (test : X → X → Bool) where
  pub Mem-put_here : (x : X) (ys : List X) → Mem x (put test x ys)
  unfolding put
  Mem-put_here x [] = here refl
  Mem-put_here x (y ∷ ys) =
      cond_both (test x y) (x ∷ y ∷ ys) (y ∷ put test x ys) (λ zs. Mem x zs) (λ _. here refl) (λ _. there (Mem-put_here x ys))

  pub Mem-put_there : {z : X} (x : X) (ys : List X) → Mem z ys → Mem z (put test x ys)
  unfolding put
  Mem-put_there x [] m = elim m [ ]
  Mem-put_there {z} x (y ∷ ys) (here e) =
      cond_both (test x y) (x ∷ y ∷ ys) (y ∷ put test x ys) (λ zs. Mem z zs) (λ _. there (here e)) (λ _. here e)
  Mem-put_there {z} x (y ∷ ys) (there m) =
      cond_both (test x y) (x ∷ y ∷ ys) (y ∷ put test x ys) (λ zs. Mem z zs)
      (λ _. there (there m)) (λ _. there (Mem-put_there x ys m))

  pub Mem-unput : {z : X} (x : X) (ys : List X) → Mem z (put test x ys) → (x ≡ z) ⊎ Mem z ys
  unfolding put
  Mem-unput x [] m = Mem-cons_cases m
  Mem-unput {z} x (y ∷ ys) m =
      cond_both (test x y) (x ∷ y ∷ ys) (y ∷ put test x ys) (λ zs. Mem z zs → (x ≡ z) ⊎ Mem z (y ∷ ys))
      (λ _ k. Mem-cons_cases k)
      (λ _ k. elim (Mem-cons_cases k) [
        | inl e ↦ inr (here e)
        | inr n ↦ elim (Mem-unput x ys n) [ inl e ↦ inl e | inr l ↦ inr (there l) ]
      ]) m

  pub length-put : (x : X) (ys : List X) → length (put test x ys) ≡ suc (length ys)
  unfolding put
  length-put x [] = refl
  length-put x (y ∷ ys) =
      cond_both (test x y) (x ∷ y ∷ ys) (y ∷ put test x ys) (λ zs. length zs ≡ suc (length (y ∷ ys)))
      (λ _. refl) (λ _. ap suc (length-put x ys))

  -- a member of the sorted list is a member of the list, and the other way round
  pub Mem-sort : {x : X} (xs : List X) → Mem x xs → Mem x (sort test xs)
  unfolding sort
  Mem-sort [] m = elim m [ ]
  Mem-sort (y ∷ ys) (here e) = Mem-same e (Mem-put_here y (sort test ys))
  Mem-sort (y ∷ ys) (there m) = Mem-put_there y (sort test ys) (Mem-sort ys m)

  pub Mem-unsort : {x : X} (xs : List X) → Mem x (sort test xs) → Mem x xs
  unfolding sort
  Mem-unsort [] m = m
  Mem-unsort (y ∷ ys) m =
      elim (Mem-unput y (sort test ys) m) [ inl e ↦ here e | inr n ↦ there (Mem-unsort ys n) ]

  pub length-sort : (xs : List X) → length (sort test xs) ≡ length xs
  unfolding sort
  length-sort [] = refl
  length-sort (x ∷ xs) = length-put x (sort test xs) ∙ ap suc (length-sort xs)

-- a map that keeps the test goes through a sort
module _ {X Y : Type 0} (under : X → X → Bool) (over : Y → Y → Bool) (f : X → Y)
    (keeps : (x y : X) → over (f x) (f y) ≡ under x y) where
  pub map-put : (x : X) (ys : List X) → map f (put under x ys) ≡ put over (f x) (map f ys)
  unfolding put
  map-put x [] = refl
  map-put x (y ∷ ys) =
      rw (keeps x y)
      (cond_both (under x y) (x ∷ y ∷ ys) (y ∷ put under x ys)
      (λ zs. map f zs ≡ cond (under x y) (f x ∷ f y ∷ map f ys) (f y ∷ put over (f x) (map f ys)))
      (λ e. sym (cond-true (under x y) _ _ e))
      (λ e. ap (λ zs. f y ∷ zs) (map-put x ys) ∙ sym (cond-false (under x y) _ _ e)))

  pub map-sort : (xs : List X) → map f (sort under xs) ≡ sort over (map f xs)
  unfolding sort
  map-sort [] = refl
  map-sort (x ∷ xs) = map-put x (sort under xs) ∙ ap (λ zs. put over (f x) zs) (map-sort xs)

below_both : {X : Type 0} {cmp : X → X → Ordering} → IsTotalOrder cmp → {x y : X} {ys : List X} → cmp x y ≡ Less
    → ((z : X) → Mem z ys → cmp y z ≡ Less) → (z : X) → Mem z (y ∷ ys) → cmp x z ≡ Less
below_both {cmp = cmp} total {x} less low z (here e) = subst (λ a. cmp x a ≡ Less) e less
below_both total {x} {y} less low z (there m) = total.trans x y z less (low z m)

-- the order is that of a total comparison
module _ {X : Type 0} {cmp : X → X → Ordering} (total : IsTotalOrder cmp) where
  pub Ascending-put : (x : X) (ys : List X) → ((y : X) → Mem y ys → eq_by_cmp cmp x y ≡ false)
      → Ascending (λ a b. cmp a b ≡ Less) ys → Ascending (λ a b. cmp a b ≡ Less) (put (before cmp) x ys)
  unfolding put
  Ascending-put x [] apart up = asc_cons (λ z m. elim m [ ]) asc_nil
  Ascending-put x (y ∷ ys) apart (asc_cons low rest) =
      cond_both (before cmp x y) (x ∷ y ∷ ys) (y ∷ put (before cmp) x ys) (λ zs. Ascending (λ a b. cmp a b ≡ Less) zs)
      (λ first. let less : cmp x y ≡ Less = Less-from_before cmp x y first in
      asc_cons (below_both total less low) (asc_cons low rest))
      (λ later. let less : cmp y x ≡ Less = Less-from_not_before total x y later (apart y (here refl)) in
      asc_cons
      (λ z m. elim (Mem-unput (before cmp) x ys m)
      [ inl e ↦ subst (λ a. cmp y a ≡ Less) e less | inr n ↦ low z n ])
      (Ascending-put x ys (λ z m. apart z (there m)) rest))

  -- where the members are apart they ascend
  pub Ascending-sort : (xs : List X) → IsDistinct (eq_by_cmp cmp) xs → Ascending (λ a b. cmp a b ≡ Less) (sort (before cmp) xs)
  unfolding sort IsDistinct
  Ascending-sort [] distinct = asc_nil
  Ascending-sort (x ∷ xs) distinct =
      Ascending-put x (sort (before cmp) xs) (λ y m. member_of_all (λ z. eq_by_cmp cmp x z ≡ false) xs distinct.0 y (Mem-unsort (before cmp) xs m))
      (Ascending-sort xs distinct.1)

  -- an ascending list is in order
  pub put-lowest : (x : X) (ys : List X) → ((y : X) → Mem y ys → cmp x y ≡ Less) → put (before cmp) x ys ≡ x ∷ ys
  unfolding put
  put-lowest x [] low = refl
  put-lowest x (y ∷ ys) low = cond-true (before cmp x y) _ _ (before-Less cmp x y (low y (here refl)))

  pub sort-ascending : (xs : List X) → Ascending (λ a b. cmp a b ≡ Less) xs → sort (before cmp) xs ≡ xs
  unfolding sort
  sort-ascending [] up = refl
  sort-ascending (x ∷ xs) (asc_cons low rest) =
      ap (λ zs. put (before cmp) x zs) (sort-ascending xs rest) ∙ put-lowest x xs low

  -- an ascending list with the same members is the sorted list
  pub sort-same : (xs ys : List X) → IsDistinct (eq_by_cmp cmp) xs → Ascending (λ a b. cmp a b ≡ Less) ys
      → ((x : X) → Mem x xs → Mem x ys) → ((x : X) → Mem x ys → Mem x xs) → sort (before cmp) xs ≡ ys
  sort-same xs ys distinct up into back =
      same_ascending (Less-not_back total) (sort (before cmp) xs) ys (Ascending-sort xs distinct) up
      (λ x m. into x (Mem-unsort (before cmp) xs m)) (λ x m. Mem-sort (before cmp) xs (back x m))

-- members that are apart
pub IsDistinct-from_Ascending : {X : Type 0} {cmp : X → X → Ordering} (xs : List X)
    → Ascending (λ a b. cmp a b ≡ Less) xs → IsDistinct (eq_by_cmp cmp) xs
unfolding IsDistinct
IsDistinct-from_Ascending [] up = tt
IsDistinct-from_Ascending {cmp = cmp} (x ∷ xs) (asc_cons low rest) =
    (all_of_members (λ y. eq_by_cmp cmp x y ≡ false) xs (λ y m. ap is_eq (low y m)), IsDistinct-from_Ascending xs rest)

pub IsDistinct-append : {X : Type 0} (same : X → X → Bool) (xs ys : List X) → IsDistinct same xs → IsDistinct same ys
    → ((x y : X) → Mem x xs → Mem y ys → same x y ≡ false) → IsDistinct same (xs ++ ys)
unfolding IsDistinct
IsDistinct-append same [] ys d e across = e
IsDistinct-append same (x ∷ xs) ys d e across = (
  all_of_members (λ y. same x y ≡ false) (xs ++ ys)
      (λ y m. elim (Mem-append_cases xs ys m) [ inl k ↦ member_of_all (λ z. same x z ≡ false) xs d.0 y k | inr k ↦ across x y (here refl) k ]),
  IsDistinct-append same xs ys d.1 e (λ a b m n. across a b (there m) n),
)

pub IsDistinct-map_on : {X Y : Type 0} (same : X → X → Bool) (alike : Y → Y → Bool) (f : X → Y) (xs : List X)
    → ((x y : X) → Mem x xs → Mem y xs → same x y ≡ false → alike (f x) (f y) ≡ false) → IsDistinct same xs → IsDistinct alike (map f xs)
unfolding IsDistinct
IsDistinct-map_on same alike f [] keeps d = tt
IsDistinct-map_on same alike f (x ∷ xs) keeps d = (
  all_of_members (λ y. alike (f x) y ≡ false) (map f xs)
      (λ y m. let w = Mem-unmap f xs m in
      subst (λ z. alike (f x) z ≡ false) w.2 (keeps x w.0 (here refl) (there w.1) (member_of_all (λ z. same x z ≡ false) xs d.0 w.0 w.1))),
  IsDistinct-map_on same alike f xs (λ a b m n. keeps a b (there m) (there n)) d.1,
)

pub IsDistinct-members : {X : Type 0} (same : X → X → Bool) (x : X) (xs : List X) → IsDistinct same (x ∷ xs)
    → ((y : X) → Mem y xs → same x y ≡ false) × IsDistinct same xs
unfolding IsDistinct
IsDistinct-members same x xs d = (member_of_all (λ y. same x y ≡ false) xs d.0, d.1)
