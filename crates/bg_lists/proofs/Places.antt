-- Laws of places: what stands at a place of a list that is made of others, there and back.
use Rattle.std.proofs.Common.{◌≡◌, ℕ, zero, suc, ◌+◌, ◌<◌, List, [], ◌∷◌, ◌++◌, map, length, get_or, slice_get, Some, refl, sym, ap, subst, ◌∙◌, arith, suc-add, zero-add, slice_set}
use Rattle.std.proofs.lemmas.List.{length-append}
use Rattle.bg_lists.specs.Lists.{Mem, here, there, At, at_here, at_there}

module _ {X : Type 0} where
  pub not_At-nil : {x : X} {i : ℕ} → At x i [] → ⊥
  not_At-nil a = elim a [ ]

  -- what stands at a place is a member, and each member stands at a place
  pub Mem-from_At : {x : X} {i : ℕ} {xs : List X} → At x i xs → Mem x xs
  Mem-from_At (at_here e) = here e
  Mem-from_At (at_there a) = there (Mem-from_At a)

  pub At-from_Mem : {x : X} {xs : List X} → Mem x xs → (i : ℕ) × At x i xs
  At-from_Mem (here e) = (0, at_here e)
  At-from_Mem (there m) = let w = At-from_Mem m in (suc w.0, at_there w.1)

  -- one stands at a place
  pub At-one : {x y : X} {i : ℕ} {xs : List X} → At x i xs → At y i xs → x ≡ y
  At-one (at_here e) (at_here f) = sym e ∙ f
  At-one (at_there a) (at_there b) = At-one a b

  pub At-same : {x y : X} {i : ℕ} {xs : List X} → x ≡ y → At x i xs → At y i xs
  At-same {i = i} {xs = xs} e a = subst (λ z. At z i xs) e a

  -- the places are the numbers below the length
  pub At-below : {x : X} {i : ℕ} {xs : List X} → At x i xs → i < length xs
  At-below (at_here e) = omega arith
  At-below (at_there a) = let below = At-below a in omega arith

  pub At-total : (xs : List X) (i : ℕ) → i < length xs → (x : X) × At x i xs
  At-total [] i below = absurd (omega arith)
  At-total (x ∷ xs) zero below = (x, at_here refl)
  At-total (x ∷ xs) (suc i) below = let w = At-total xs i (omega arith) in (w.0, at_there w.1)

  -- what std's words read at a place
  pub get_or-At : {x : X} {i : ℕ} (xs : List X) (d : X) → At x i xs → get_or xs i d ≡ x
  get_or-At [] d a = elim a [ ]
  get_or-At (y ∷ ys) d (at_here e) = e
  get_or-At (y ∷ ys) d (at_there a) = get_or-At ys d a

  pub At-get_or : (xs : List X) (i : ℕ) (d : X) → i < length xs → At (get_or xs i d) i xs
  At-get_or [] i d below = absurd (omega arith)
  At-get_or (x ∷ xs) zero d below = at_here refl
  At-get_or (x ∷ xs) (suc i) d below = at_there (At-get_or xs i d (omega arith))

  pub slice_get-At : {x : X} {i : ℕ} (xs : List X) → At x i xs → slice_get xs i ≡ Some x
  slice_get-At [] a = elim a [ ]
  slice_get-At (y ∷ ys) (at_here e) = ap Some e
  slice_get-At (y ∷ ys) (at_there a) = slice_get-At ys a

  pub At-slice_get : {x : X} (i : ℕ) (xs : List X) → slice_get xs i ≡ Some x → At x i xs
  At-slice_get i [] e = cc
  At-slice_get zero (y ∷ ys) e = at_here cc
  At-slice_get (suc i) (y ∷ ys) e = at_there (At-slice_get i ys e)

  pub At-append_left : {x : X} {i : ℕ} (xs ys : List X) → At x i xs → At x i (xs ++ ys)
  At-append_left [] ys a = elim a [ ]
  At-append_left (x ∷ xs) ys (at_here e) = at_here e
  At-append_left (x ∷ xs) ys (at_there a) = at_there (At-append_left xs ys a)

  pub At-append_right : {x : X} (i : ℕ) (xs ys : List X) → At x i ys → At x (length xs + i) (xs ++ ys)
  At-append_right {x} i [] ys a = rw zero-add a
  At-append_right {x} i (y ∷ xs) ys a = rw suc-add (at_there (At-append_right i xs ys a))

  -- what stands in a list stands there still where others follow
  pub slice_get-append_left : (xs ys : List X) (i : ℕ) → i < length xs → slice_get (xs ++ ys) i ≡ slice_get xs i
  slice_get-append_left [] ys i below = absurd (omega (arith, below))
  slice_get-append_left (x ∷ xs) ys zero below = refl
  slice_get-append_left (x ∷ xs) ys (suc i) below = slice_get-append_left xs ys i (omega (arith, below))

  pub length-append_one : (xs : List X) (x : X) → length (xs ++ x ∷ []) ≡ length xs + 1
  length-append_one xs x = length-append xs (x ∷ [])

  -- an item that is set: it stands at its place, and the others stay
  pub get-set_same : (xs : List X) (i at : ℕ) (x : X) → i ≡ at → at < length xs → slice_get (slice_set xs at x) i ≡ Some x
  get-set_same [] i at x same inside = absurd (omega (arith, inside))
  get-set_same (y ∷ ys) zero zero x same inside = refl
  get-set_same (y ∷ ys) zero (suc at) x same inside = absurd (omega (arith, same))
  get-set_same (y ∷ ys) (suc i) zero x same inside = absurd (omega (arith, same))
  get-set_same (y ∷ ys) (suc i) (suc at) x same inside = get-set_same ys i at x (omega (arith, same)) (omega (arith, inside))

  pub get-set_other : (xs : List X) (i at : ℕ) (x : X) → (i ≡ at → ⊥) → slice_get (slice_set xs at x) i ≡ slice_get xs i
  get-set_other [] i at x apart = refl
  get-set_other (y ∷ ys) zero zero x apart = absurd (apart refl)
  get-set_other (y ∷ ys) zero (suc at) x apart = refl
  get-set_other (y ∷ ys) (suc i) zero x apart = refl
  get-set_other (y ∷ ys) (suc i) (suc at) x apart = get-set_other ys i at x (λ e. apart (ap suc e))

  -- lists of one length with the same at each place are equal
  pub same_by_places : (xs ys : List X) → length xs ≡ length ys
      → ((i : ℕ) (x y : X) → At x i xs → At y i ys → x ≡ y) → xs ≡ ys
  same_by_places [] [] long same = refl
  same_by_places [] (y ∷ ys) long same = absurd (omega arith)
  same_by_places (x ∷ xs) [] long same = absurd (omega arith)
  same_by_places (x ∷ xs) (y ∷ ys) long same =
      let head = same 0 x y (at_here refl) (at_here refl) in
      let tail = same_by_places xs ys (omega arith) (λ i a b m n. same (suc i) a b (at_there m) (at_there n)) in cc

module _ {X Y : Type 0} where
  pub At-map : {x : X} {i : ℕ} (f : X → Y) {xs : List X} → At x i xs → At (f x) i (map f xs)
  At-map f (at_here e) = at_here (ap f e)
  At-map f (at_there a) = at_there (At-map f a)

  pub At-unmap : {y : Y} {i : ℕ} (f : X → Y) (xs : List X) → At y i (map f xs) → (x : X) × At x i xs × (f x ≡ y)
  At-unmap f [] a = elim a [ ]
  At-unmap f (x ∷ xs) (at_here e) = (x, at_here refl, e)
  At-unmap f (x ∷ xs) (at_there a) = let w = At-unmap f xs a in (w.0, at_there w.1, w.2)
