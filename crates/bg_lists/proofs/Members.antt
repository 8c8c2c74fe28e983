-- Laws of membership: members of a list that is made of others, there and back.
use Rattle.std.proofs.Common.{◌≡◌, Bool, true, false, List, [], ◌∷◌, ◌++◌, map, filter, refl, sym, ap, subst, ◌∙◌, ◌⊎◌, inl, inr, cond}
use Rattle.std.proofs.lemmas.Bool.{cond_both, cond-true, cond-false}
use Rattle.bg_lists.specs.Lists.{Mem, here, there, Disjoint}

module _ {X : Type 0} where
  pub not_Mem-nil : (x : X) → Mem x [] → ⊥
  not_Mem-nil x m = elim m [ ]

  -- a member is the head, or stands in the tail
  pub Mem-cons_cases : {x y : X} {ys : List X} → Mem x (y ∷ ys) → (y ≡ x) ⊎ Mem x ys
  Mem-cons_cases (here e) = inl e
  Mem-cons_cases (there m) = inr m

  pub Mem-same : {x y : X} {xs : List X} → x ≡ y → Mem x xs → Mem y xs
  Mem-same {xs = xs} e m = subst (λ z. Mem z xs) e m

  pub Mem-append_left : {x : X} (xs ys : List X) → Mem x xs → Mem x (xs ++ ys)
  Mem-append_left [] ys m = elim m [ ]
  Mem-append_left (x ∷ xs) ys (here e) = here e
  Mem-append_left (x ∷ xs) ys (there m) = there (Mem-append_left xs ys m)

  pub Mem-append_right : {x : X} (xs ys : List X) → Mem x ys → Mem x (xs ++ ys)
  Mem-append_right [] ys m = m
  Mem-append_right (x ∷ xs) ys m = there (Mem-append_right xs ys m)

  pub Mem-append_cases : {x : X} (xs ys : List X) → Mem x (xs ++ ys) → Mem x xs ⊎ Mem x ys
  Mem-append_cases [] ys m = inr m
  Mem-append_cases (x ∷ xs) ys (here e) = inl (here e)
  Mem-append_cases (x ∷ xs) ys (there m) =
      elim (Mem-append_cases xs ys m) [ inl left ↦ inl (there left) | inr right ↦ inr right ]

  -- the members of a filtered list are the members that pass
  pub Mem-filter : {x : X} (test : X → Bool) (xs : List X) → Mem x xs → test x ≡ true → Mem x (filter test xs)
  Mem-filter test [] m pass = elim m [ ]
  Mem-filter {x} test (y ∷ ys) (here e) pass =
      cond_both (test y) (y ∷ filter test ys) (filter test ys) (λ zs. Mem x zs)
      (λ _. here e) (λ fail. let bad : true ≡ false = sym pass ∙ ap test (sym e) ∙ fail in cc)
  Mem-filter {x} test (y ∷ ys) (there m) pass =
      cond_both (test y) (y ∷ filter test ys) (filter test ys) (λ zs. Mem x zs)
      (λ _. there (Mem-filter test ys m pass)) (λ _. Mem-filter test ys m pass)

  pub Mem-unfilter : {x : X} (test : X → Bool) (xs : List X) → Mem x (filter test xs) → Mem x xs × (test x ≡ true)
  Mem-unfilter test [] m = elim m [ ]
  Mem-unfilter {x} test (y ∷ ys) m =
      cond_both (test y) (y ∷ filter test ys) (filter test ys) (λ zs. Mem x zs → Mem x (y ∷ ys) × (test x ≡ true))
      (λ pass k. elim (Mem-cons_cases k) [ inl e ↦ (here e, ap test (sym e) ∙ pass) | inr n ↦ (let w = Mem-unfilter test ys n in (there w.0, w.1)) ])
      (λ _ k. let w = Mem-unfilter test ys k in (there w.0, w.1)) m

  -- tests that agree on the members leave the same
  pub filter_agree_on : (test other : X → Bool) (xs : List X) → ((x : X) → Mem x xs → test x ≡ other x) → filter test xs ≡ filter other xs
  filter_agree_on test other [] same = refl
  filter_agree_on test other (x ∷ xs) same =
      ap (λ b. cond b (x ∷ filter test xs) (filter test xs)) (same x (here refl))
      ∙ ap (λ ys. cond (other x) (x ∷ ys) ys) (filter_agree_on test other xs (λ y m. same y (there m)))

  -- lists with no member in common
  pub Disjoint-back : {xs ys : List X} → Disjoint xs ys → Disjoint ys xs
  Disjoint-back d = record { apart = λ x m n. d.apart x n m }

  pub Disjoint-append : (xs ys zs : List X) → Disjoint xs zs → Disjoint ys zs → Disjoint (xs ++ ys) zs
  Disjoint-append xs ys zs d e =
      record { apart = λ x m n. elim (Mem-append_cases xs ys m) [ inl k ↦ d.apart x k n | inr k ↦ e.apart x k n ] }

module _ {X Y : Type 0} where
  pub Mem-map : {x : X} (f : X → Y) {xs : List X} → Mem x xs → Mem (f x) (map f xs)
  Mem-map f (here e) = here (ap f e)
  Mem-map f (there m) = there (Mem-map f m)

  pub Mem-unmap : {y : Y} (f : X → Y) (xs : List X) → Mem y (map f xs) → (x : X) × Mem x xs × (f x ≡ y)
  Mem-unmap f [] m = elim m [ ]
  Mem-unmap f (x ∷ xs) (here e) = (x, here refl, e)
  Mem-unmap f (x ∷ xs) (there m) = let w = Mem-unmap f xs m in (w.0, there w.1, w.2)

  -- functions that agree on the members give one list
  pub map_agree : (f g : X → Y) (xs : List X) → ((x : X) → Mem x xs → f x ≡ g x) → map f xs ≡ map g xs
  map_agree f g [] same = refl
  map_agree f g (x ∷ xs) same =
      let head = same x (here refl) in
      let tail = map_agree f g xs (λ y m. same y (there m)) in cc

  pub agree_map : (f g : X → Y) (xs : List X) → map f xs ≡ map g xs → (x : X) → Mem x xs → f x ≡ g x
  agree_map f g [] same x m = elim m [ ]
  agree_map f g (y ∷ ys) same x (here e) = let head : f y ≡ g y = cc in sym (ap f e) ∙ head ∙ ap g e
  agree_map f g (y ∷ ys) same x (there m) = let tail : map f ys ≡ map g ys = cc in agree_map f g ys tail x m

pub map-map : {X Y Z : Type 0} (f : X → Y) (g : Y → Z) (xs : List X) → map g (map f xs) ≡ map (λ x. g (f x)) xs
map-map f g [] = refl
map-map f g (x ∷ xs) = ap (λ zs. g (f x) ∷ zs) (map-map f g xs)

-- what is left of a map is the map of what is left
pub filter-map : {X Y : Type 0} (f : X → Y) (test : Y → Bool) (xs : List X) → filter test (map f xs) ≡ map f (filter (λ x. test (f x)) xs)
filter-map f test [] = refl
filter-map f test (x ∷ xs) =
    ap (λ ys. cond (test (f x)) (f x ∷ ys) ys) (filter-map f test xs)
    ∙ cond_both (test (f x)) (x ∷ filter (λ y. test (f y)) xs) (filter (λ y. test (f y)) xs)
    (λ zs. cond (test (f x)) (f x ∷ map f (filter (λ y. test (f y)) xs)) (map f (filter (λ y. test (f y)) xs)) ≡ map f zs)
    (λ e. cond-true (test (f x)) _ _ e) (λ e. cond-false (test (f x)) _ _ e)
