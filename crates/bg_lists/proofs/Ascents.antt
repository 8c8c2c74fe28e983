-- Laws of lists that ascend.
use Rattle.std.proofs.Common.{◌≡◌, ℕ, ◌<◌, Bool, true, false, Ordering, Less, is_eq, List, [], ◌∷◌, ◌++◌, map, filter, refl, sym, ap, subst, ◌∙◌, inl, inr, arith}
use Rattle.std.specs.Ordering.{eq_by_cmp}
use Rattle.std.specs.List.{AllByRecursion}
use Rattle.std.specs.List.Sorted.{IsStrictlySortedBy}
use Rattle.std.proofs.lemmas.Bool.{cond_both, cases_order}
use Rattle.bg_lists.specs.Lists.{Mem, here, there, At, at_here, at_there}
use Rattle.bg_lists.specs.Orders.{Ascending, asc_nil, asc_cons}
use Rattle.bg_lists.proofs.Members.{Mem-append_cases, Mem-unmap, Mem-map, Mem-unfilter}
use Rattle.bg_lists.proofs.Places.{Mem-from_At}

-- a fact of all by recursion, and of each member
pub member_of_all : {X : Type 0} (P : X → Type 0) (xs : List X) → AllByRecursion P xs → (x : X) → Mem x xs → P x
member_of_all P [] all x m = elim m [ ]
member_of_all P (y ∷ ys) all x (here e) = subst P e all.0
member_of_all P (y ∷ ys) all x (there m) = member_of_all P ys all.1 x m

pub all_of_members : {X : Type 0} (P : X → Type 0) (xs : List X) → ((x : X) → Mem x xs → P x) → AllByRecursion P xs
all_of_members P [] each = tt
all_of_members P (x ∷ xs) each = (each x (here refl), all_of_members P xs (λ y m. each y (there m)))

module _ {X : Type 0} {Below : X → X → Type 0} (one_way : (x y : X) → Below x y → Below y x → ⊥) where
  same_heads : {x y : X} {xs ys : List X} → ((z : X) → Mem z xs → Below x z) → ((z : X) → Mem z ys → Below y z)
      → Mem x (y ∷ ys) → Mem y (x ∷ xs) → x ≡ y
  same_heads low lov (here e) n = sym e
  same_heads low lov (there m) (here f) = f
  same_heads {x} {y} low lov (there m) (there n) = absurd (one_way x y (low y n) (lov x m))

  in_tail : {x y z : X} {ys : List X} → Below x z → x ≡ y → Mem z (y ∷ ys) → Mem z ys
  in_tail {x} {y} {z} less same (here e) =
      let itself : Below z z = subst (λ a. Below a z) (same ∙ e) less in absurd (one_way z z itself itself)
  in_tail less same (there m) = m

module _ {X : Type 0} {Below : X → X → Type 0} where
  -- the head stands below each member of the tail, and the tail ascends
  pub Ascending-head : {x : X} {xs : List X} → Ascending Below (x ∷ xs) → (y : X) → Mem y xs → Below x y
  Ascending-head (asc_cons low rest) = low

  pub Ascending-tail : {x : X} {xs : List X} → Ascending Below (x ∷ xs) → Ascending Below xs
  Ascending-tail (asc_cons low rest) = rest

  pub Ascending-append : (xs ys : List X) → Ascending Below xs → Ascending Below ys
      → ((x y : X) → Mem x xs → Mem y ys → Below x y) → Ascending Below (xs ++ ys)
  Ascending-append [] ys up vp across = vp
  Ascending-append (x ∷ xs) ys (asc_cons low rest) vp across =
      asc_cons (λ z m. elim (Mem-append_cases xs ys m) [ inl k ↦ low z k | inr k ↦ across x z (here refl) k ])
      (Ascending-append xs ys rest vp (λ a b m n. across a b (there m) n))

  pub Ascending-filter : (test : X → Bool) (xs : List X) → Ascending Below xs → Ascending Below (filter test xs)
  Ascending-filter test [] up = asc_nil
  Ascending-filter test (x ∷ xs) (asc_cons low rest) =
      cond_both (test x) (x ∷ filter test xs) (filter test xs) (λ zs. Ascending Below zs)
      (λ _. asc_cons (λ y m. low y (Mem-unfilter test xs m).0) (Ascending-filter test xs rest))
      (λ _. Ascending-filter test xs rest)

  -- of two places the one before holds the lower
  pub Below-by_places : {x y : X} (xs : List X) → Ascending Below xs → {i j : ℕ} → At x i xs → At y j xs → i < j → Below x y
  Below-by_places [] up a b less = elim a [ ]
  Below-by_places (z ∷ zs) up (at_here e) (at_here f) less = absurd (omega arith)
  Below-by_places {y = y} (z ∷ zs) (asc_cons low rest) (at_here e) (at_there b) less =
      subst (λ a. Below a y) e (low y (Mem-from_At b))
  Below-by_places (z ∷ zs) up (at_there a) (at_here f) less = absurd (omega arith)
  Below-by_places (z ∷ zs) (asc_cons low rest) (at_there a) (at_there b) less =
      Below-by_places zs rest a b (omega arith)

  -- a member stands at one place
  pub one_place : {x : X} (xs : List X) → ((y : X) → Below y y → ⊥) → Ascending Below xs → {i j : ℕ} → At x i xs → At x j xs → i ≡ j
  one_place {x} xs never up {i} {j} a b =
      elim (cases_order i j) [
        | inl same ↦ same
        | inr (inl less) ↦ absurd (never x (Below-by_places xs up a b less))
        | inr (inr more) ↦ absurd (never x (Below-by_places xs up b a more))
      ]

  -- ascending lists with the same members are equal
  pub same_ascending : ((x y : X) → Below x y → Below y x → ⊥) → (xs ys : List X) → Ascending Below xs → Ascending Below ys
      → ((x : X) → Mem x xs → Mem x ys) → ((x : X) → Mem x ys → Mem x xs) → xs ≡ ys
  same_ascending one_way [] [] up vp into back = refl
  same_ascending one_way [] (y ∷ ys) up vp into back = let m = back y (here refl) in elim m [ ]
  same_ascending one_way (x ∷ xs) [] up vp into back = let m = into x (here refl) in elim m [ ]
  same_ascending one_way (x ∷ xs) (y ∷ ys) (asc_cons low rest) (asc_cons lov vest) into back =
      let head : x ≡ y = same_heads one_way low lov (into x (here refl)) (back y (here refl)) in
      let tail = same_ascending one_way xs ys rest vest
      (λ z m. in_tail one_way (low z m) head (into z (there m)))
      (λ z m. in_tail one_way (lov z m) (sym head) (back z (there m))) in
      cc

  -- what holds of two below each other, by members alone
  pub Ascending-map_on : {Y : Type 0} {Under : Y → Y → Type 0} (f : X → Y) (xs : List X)
      → ((x y : X) → Mem x xs → Mem y xs → Below x y → Under (f x) (f y)) → Ascending Below xs → Ascending Under (map f xs)
  Ascending-map_on f [] keeps up = asc_nil
  Ascending-map_on {Under = Under} f (x ∷ xs) keeps (asc_cons low rest) =
      asc_cons (λ y m. let w = Mem-unmap f xs m in subst (λ z. Under (f x) z) w.2 (keeps x w.0 (here refl) (there w.1) (low w.0 w.1)))
      (Ascending-map_on f xs (λ a b m n. keeps a b (there m) (there n)) rest)

  pub Ascending-map : {Y : Type 0} {Under : Y → Y → Type 0} (f : X → Y) (xs : List X)
      → ((x y : X) → Below x y → Under (f x) (f y)) → Ascending Below xs → Ascending Under (map f xs)
  Ascending-map f xs keeps up = Ascending-map_on f xs (λ x y m n. keeps x y) up

pub Ascending-unmap : {X Y : Type 0} {Under : Y → Y → Type 0} (f : X → Y) (xs : List X)
    → Ascending Under (map f xs) → Ascending (λ x y. Under (f x) (f y)) xs
Ascending-unmap f [] up = asc_nil
Ascending-unmap f (x ∷ xs) (asc_cons low rest) =
    asc_cons (λ y m. low (f y) (Mem-map f m)) (Ascending-unmap f xs rest)

-- under a total comparison: a member is found again by what is equal to it
pub same_member : {X : Type 0} {cmp : X → X → Ordering} → {x y : X} {xs : List X}
    → Ascending (λ a b. cmp a b ≡ Less) xs → Mem x xs → Mem y xs → eq_by_cmp cmp x y ≡ true → eq_by_cmp cmp y x ≡ true → x ≡ y
same_member asc_nil m n tied back = elim m [ ]
same_member (asc_cons low rest) (here e) (here f) tied back = sym e ∙ f
same_member {cmp = cmp} {x} {y} (asc_cons low rest) (here e) (there n) tied back =
    let less : cmp x y ≡ Less = subst (λ z. cmp z y ≡ Less) e (low y n) in
    let bad : true ≡ false = sym tied ∙ ap is_eq less in cc
same_member {cmp = cmp} {x} {y} (asc_cons low rest) (there m) (here f) tied back =
    let less : cmp y x ≡ Less = subst (λ z. cmp z x ≡ Less) f (low x m) in
    let bad : true ≡ false = sym back ∙ ap is_eq less in cc
same_member (asc_cons low rest) (there m) (there n) tied back = same_member rest m n tied back

-- between `Ascending` and std's word
module _ {X : Type 0} {cmp : X → X → Ordering} where
  pub Ascending-from_sorted : (xs : List X) → IsStrictlySortedBy cmp xs → Ascending (λ x y. cmp x y ≡ Less) xs
  unfolding IsStrictlySortedBy
  Ascending-from_sorted [] sorted = asc_nil
  Ascending-from_sorted (x ∷ xs) sorted = asc_cons (member_of_all (λ y. cmp x y ≡ Less) xs sorted.0) (Ascending-from_sorted xs sorted.1)

  pub sorted_from_Ascending : (xs : List X) → Ascending (λ x y. cmp x y ≡ Less) xs → IsStrictlySortedBy cmp xs
  unfolding IsStrictlySortedBy
  sorted_from_Ascending [] up = tt
  sorted_from_Ascending (x ∷ xs) (asc_cons low rest) = (all_of_members (λ y. cmp x y ≡ Less) xs low, sorted_from_Ascending xs rest)
