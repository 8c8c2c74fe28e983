-- Laws of rows in groups by a number: in rows that do not fall by number, those of one number are a part of them.
use Rattle.std.proofs.Common.{◌≡◌, ℕ, ◌+◌, ◌-◌, ◌<◌, ◌≤◌, ◌==◌, ◌&&◌, Bool, true, false, not, List, [], ◌∷◌, ◌++◌, length, map, filter, take, drop, get_or, nat_cmp, is_lt, refl, sym, ap, subst, ◌∙◌, arith, ltb, leb, ltb-true, leb-true, ltb-false, leb-false, length-take, eqb-true, eq-eqb, get_or-take, get_or-drop, length-take-le, length-drop, append-nil, take_all}
use Rattle.std.specs.List.Sorted.{IsPartitionPoint, IsPartitionedBy, IsNonDecreasingBy, IsStableBy, ties}
use Rattle.std.proofs.lemmas.List.Sorted.{IsPartitionedBy-ltb, IsPartitionedBy-leb, IsNonDecreasingBy-drop}
use Rattle.std.proofs.lemmas.Bool.{false_from_ne_true, cond-true, cond-false}
use Rattle.std.proofs.lemmas.Bool.Decides.{nat_tests}
use Rattle.std.proofs.lemmas.List.{take-append-drop, take-map, drop-map}
use Rattle.std.proofs.lemmas.List.Elements.{filter-append, filter_agree}
use Rattle.bg_lists.specs.Lists.{Mem, here, there}
use Rattle.bg_lists.proofs.Places.{At-from_Mem, At-below, get_or-At}

-- ---- filters that all pass, or none

module _ {X : Type 0} (test : X → Bool) where
  pub filter_all : (xs : List X) → ((x : X) → Mem x xs → test x ≡ true) → filter test xs ≡ xs
  filter_all [] pass = refl
  filter_all (x ∷ xs) pass =
      cond-true (test x) (x ∷ filter test xs) (filter test xs) (pass x (here refl)) ∙ ap (λ ys. x ∷ ys) (filter_all xs (λ y m. pass y (there m)))

  pub filter_none : (xs : List X) → ((x : X) → Mem x xs → test x ≡ false) → filter test xs ≡ []
  filter_none [] fail = refl
  filter_none (x ∷ xs) fail =
      cond-false (test x) (x ∷ filter test xs) (filter test xs) (fail x (here refl)) ∙ filter_none xs (λ y m. fail y (there m))

-- ---- what a stable sort keeps: the rows of one number, in their order

tied_numbers : (m n : ℕ) → (not (is_lt (nat_cmp m n)) && not (is_lt (nat_cmp n m))) ≡ (n == m)
tied_numbers m n = grind (arith, nat_tests)

pub stable_group : {X : Type 0} (number : X → ℕ) (rows sorted : List X)
    → IsStableBy (λ x y. is_lt (nat_cmp (number x) (number y))) rows sorted → (row : X)
    → filter (λ x. number x == number row) sorted ≡ filter (λ x. number x == number row) rows
stable_group {X} number rows sorted stable row =
    let tie : (other : X) → ties (λ x y. is_lt (nat_cmp (number x) (number y))) row other ≡ (number other == number row)
    = λ other. tied_numbers (number row) (number other) in
    sym (filter_agree _ _ tie sorted) ∙ stable row ∙ filter_agree _ _ tie rows

-- ---- the part begins where the numbers are no longer less, and ends where they are more

module _ {X : Type 0} (number : X → ℕ) (wanted : ℕ) (xs : List X) (start count : ℕ) (inside : start ≤ length xs)
    (lower : IsPartitionPoint (λ y. ltb (number y) wanted ≡ true) (λ y. ltb (number y) wanted ≡ false) xs start)
    (upper : IsPartitionPoint (λ y. leb (number y) wanted ≡ true) (λ y. leb (number y) wanted ≡ false) (drop start xs) count) where
  before_it : (x : X) → Mem x (take start xs) → (number x == wanted) ≡ false
  before_it x m =
      let w = At-from_Mem m in
      let at : w.0 < start = omega (arith, At-below w.1, length-take-le start xs inside) in
      let e : get_or xs w.0 x ≡ x = sym (get_or-take start xs w.0 x at) ∙ get_or-At (take start xs) x w.1 in
      let less = ltb-true (number x) wanted (subst (λ z. ltb (number z) wanted ≡ true) e (lower.0 w.0 x (omega arith) at)) in
      false_from_ne_true (number x == wanted) (λ t. let same = eqb-true (number x) wanted t in omega (arith, less, same))

  at_it : (x : X) → Mem x (take count (drop start xs)) → (number x == wanted) ≡ true
  at_it x m =
      let w = At-from_Mem m in
      let at : w.0 < length (take count (drop start xs)) = At-below w.1 in
      let below : w.0 < count = omega (arith, at, length-take count (drop start xs)) in
      let inside_it : start + w.0 < length xs = omega (arith, at, length-take count (drop start xs), length-drop start xs) in
      let e : get_or (drop start xs) w.0 x ≡ x = sym (get_or-take count (drop start xs) w.0 x below) ∙ get_or-At (take count (drop start xs)) x w.1 in
      let d : get_or xs (start + w.0) x ≡ x = sym (get_or-drop start xs w.0 x) ∙ e in
      let most = leb-true (number x) wanted (subst (λ z. leb (number z) wanted ≡ true) e (upper.0 w.0 x (omega arith) below)) in
      let least = ltb-false (number x) wanted (subst (λ z. ltb (number z) wanted ≡ false) d (lower.1 (start + w.0) x (omega arith) inside_it)) in
      let same : number x ≡ wanted = omega (arith, most, least) in
      eq-eqb (number x) wanted same

  after_it : (x : X) → Mem x (drop count (drop start xs)) → (number x == wanted) ≡ false
  after_it x m =
      let w = At-from_Mem m in
      let at : w.0 < length (drop count (drop start xs)) = At-below w.1 in
      let inside_it : count + w.0 < length (drop start xs) = omega (arith, at, length-drop count (drop start xs)) in
      let e : get_or (drop start xs) (count + w.0) x ≡ x
      = sym (get_or-drop count (drop start xs) w.0 x) ∙ get_or-At (drop count (drop start xs)) x w.1 in
      let more = leb-false (number x) wanted (subst (λ z. leb (number z) wanted ≡ false) e (upper.1 (count + w.0) x (omega arith) inside_it)) in
      false_from_ne_true (number x == wanted) (λ t. let same = eqb-true (number x) wanted t in omega (arith, more, same))

  pub group_is : take count (drop start xs) ≡ filter (λ x. number x == wanted) xs
  group_is =
      let rest = drop start xs in
      let test : X → Bool = λ x. number x == wanted in
      let front : filter test (take start xs) ≡ [] = filter_none test (take start xs) before_it in
      let middle : filter test (take count rest) ≡ take count rest = filter_all test (take count rest) at_it in
      let back : filter test (drop count rest) ≡ [] = filter_none test (drop count rest) after_it in
      sym (ap (filter test) (sym (take-append-drop start xs)) ∙ filter-append test (take start xs) rest
      ∙ ap (λ ys. ys ++ filter test rest) front
      ∙ ap (filter test) (sym (take-append-drop count rest)) ∙ filter-append test (take count rest) (drop count rest)
      ∙ ap (λ ys. ys ++ filter test (drop count rest)) middle ∙ ap (λ ys. take count rest ++ ys) back ∙ append-nil (take count rest))

-- the same of what a map makes of the rows, as two searches answer: one of the rows, and one of what is left from there
module _ {X Y : Type 0} (number : X → ℕ) (f : X → Y) (rows : List X) (parts : List Y) (rise : IsNonDecreasingBy number rows)
    (same : parts ≡ map f rows) where
  pub group_found : (wanted start count : ℕ) → start ≤ length rows
      → (IsPartitionedBy (λ y. ltb (number y) wanted) rows
      → IsPartitionPoint (λ y. ltb (number y) wanted ≡ true) (λ y. ltb (number y) wanted ≡ false) rows start)
      → (IsPartitionedBy (λ y. leb (number y) wanted) (take (length rows - start) (drop start rows))
      → IsPartitionPoint (λ y. leb (number y) wanted ≡ true) (λ y. leb (number y) wanted ≡ false) (take (length rows - start) (drop start rows)) count)
      → take (start + count - start) (drop start parts) ≡ map f (filter (λ x. number x == wanted) rows)
  group_found wanted start count inside lower upper =
      let span : start + count - start ≡ count = omega arith in
      let whole : take (length rows - start) (drop start rows) ≡ drop start rows
      = take_all (length rows - start) (drop start rows) (omega (arith, length-drop start rows)) in
      let low = lower (IsPartitionedBy-ltb number rows wanted rise) in
      let high = subst (λ xs. IsPartitionPoint (λ y. leb (number y) wanted ≡ true) (λ y. leb (number y) wanted ≡ false) xs count) whole
      (upper (subst (IsPartitionedBy (λ y. leb (number y) wanted)) (sym whole)
      (IsPartitionedBy-leb number (drop start rows) wanted (IsNonDecreasingBy-drop number start rows rise)))) in
      ap (λ k. take k (drop start parts)) span ∙ ap (λ xs. take count (drop start xs)) same
      ∙ ap (take count) (drop-map f start rows) ∙ take-map f count (drop start rows)
      ∙ ap (map f) (group_is number wanted rows start count inside low high)
