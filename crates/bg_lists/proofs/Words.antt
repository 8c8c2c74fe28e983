-- Between membership and std's words: `All`, `Contains`, `list_all`, `find`, `IsPermutation`.
use Rattle.std.proofs.Common.{filter, ◌≤◌, ◌<◌, cond, length, arith, ◌≡◌, Bool, true, false, List, [], ◌∷◌, get_or, All, Contains, find, is_some, Option, Some, None, IsPermutation, refl, sym, ap, subst, ◌∙◌, inl, inr, ◌||◌}
use Rattle.std.specs.List.{list_all, list_any}
use Rattle.std.proofs.lemmas.Bool.{false≢true, false_from_ne_true, cond_both, cond-true, cond-false, cases_Bool, and_parts, and_from, or_cases, or_left, or_right}
use Rattle.std.proofs.lemmas.List.Sorted.{Contains-permutation, IsPermutation-sym}
use Rattle.bg_lists.specs.Lists.{Mem, here, there}
use Rattle.bg_lists.proofs.Members.{Mem-cons_cases}
use Rattle.bg_lists.proofs.Places.{Mem-from_At, At-from_Mem, At-below, At-get_or, get_or-At}

module _ {X : Type 0} where
  -- what holds of all holds of each member, and the other way round
  pub All-member : (P : X → Type 0) (xs : List X) → All P xs → {x : X} → Mem x xs → P x
  All-member P xs all {x} m =
      let w = At-from_Mem m in subst P (get_or-At xs x w.1) (all w.0 x (At-below w.1))

  pub All-from_members : (P : X → Type 0) (xs : List X) → ((x : X) → Mem x xs → P x) → All P xs
  All-from_members P xs each k d below = each (get_or xs k d) (Mem-from_At (At-get_or xs k d below))

  pub Mem-from_Contains : (xs : List X) (x : X) → Contains xs x → Mem x xs
  Mem-from_Contains xs x has = subst (λ z. Mem z xs) has.2 (Mem-from_At (At-get_or xs has.0 x has.1))

  pub Contains-member : {x : X} (xs : List X) → Mem x xs → Contains xs x
  Contains-member {x} xs m = let w = At-from_Mem m in (w.0, At-below w.1, get_or-At xs x w.1)

  pub list_all-member : (test : X → Bool) (xs : List X) → list_all test xs ≡ true → {x : X} → Mem x xs → test x ≡ true
  list_all-member test [] all m = elim m [ ]
  list_all-member test (y ∷ ys) all (here e) = ap test (sym e) ∙ (and_parts (test y) (list_all test ys) all).0
  list_all-member test (y ∷ ys) all (there m) = list_all-member test ys (and_parts (test y) (list_all test ys) all).1 m

  pub list_all-from_members : (test : X → Bool) (xs : List X) → ((x : X) → Mem x xs → test x ≡ true) → list_all test xs ≡ true
  list_all-from_members test [] each = refl
  list_all-from_members test (x ∷ xs) each =
      and_from (test x) (list_all test xs) (each x (here refl)) (list_all-from_members test xs (λ y m. each y (there m)))

  pub list_any-from_member : (test : X → Bool) (xs : List X) {x : X} → Mem x xs → test x ≡ true → list_any test xs ≡ true
  list_any-from_member test [] m pass = elim m [ ]
  list_any-from_member test (y ∷ ys) (here e) pass = or_left (test y) (list_any test ys) (ap test e ∙ pass)
  list_any-from_member test (y ∷ ys) (there m) pass = or_right (test y) (list_any test ys) (list_any-from_member test ys m pass)

  pub member_from_list_any : (test : X → Bool) (xs : List X) → list_any test xs ≡ true → (x : X) × Mem x xs × (test x ≡ true)
  member_from_list_any test [] any = cc
  member_from_list_any test (x ∷ xs) any =
      elim (or_cases (test x) (list_any test xs) any)
      [ inl e ↦ (x, here refl, e) | inr e ↦ (let w = member_from_list_any test xs e in (w.0, there w.1, w.2)) ]

  pub fails_from_list_any : (test : X → Bool) (xs : List X) → list_any test xs ≡ false → (x : X) → Mem x xs → test x ≡ false
  fails_from_list_any test xs none x m =
      false_from_ne_true (test x) (λ pass. false≢true (sym none ∙ list_any-from_member test xs m pass))

  -- the first that passes is a member that passes
  pub member_from_find : (test : X → Bool) (xs : List X) (x : X) → find test xs ≡ Some x → Mem x xs × (test x ≡ true)
  member_from_find test [] x e = cc
  member_from_find test (y ∷ ys) x e =
      elim (cases_Bool (test y)) [
        | inl pass ↦ (let same : Some y ≡ Some x = sym (cond-true (test y) _ _ pass) ∙ e in
            let head : y ≡ x = cc in (here head, ap test (sym head) ∙ pass))
        | inr fail ↦ (let w = member_from_find test ys x (sym (cond-false (test y) _ _ fail) ∙ e) in (there w.0, w.1))
      ]

  -- where no member passes none is found, and where none is found no member passes
  pub find-none : (test : X → Bool) (xs : List X) → ((x : X) → Mem x xs → test x ≡ false) → find test xs ≡ None
  find-none test [] each = refl
  find-none test (x ∷ xs) each =
      cond-false (test x) _ _ (each x (here refl)) ∙ find-none test xs (λ y m. each y (there m))

  pub fails_from_find : (test : X → Bool) (xs : List X) → find test xs ≡ None → {x : X} → Mem x xs → test x ≡ false
  fails_from_find test [] e m = elim m [ ]
  fails_from_find test (y ∷ ys) e {x} m =
      elim (cases_Bool (test y)) [
        | inl pass ↦ (let clash : Some y ≡ None = sym (cond-true (test y) _ _ pass) ∙ e in cc)
        | inr fail ↦ elim (Mem-cons_cases m) [
          | inl same ↦ ap test (sym same) ∙ fail
          | inr n ↦ fails_from_find test ys (sym (cond-false (test y) _ _ fail) ∙ e) n
        ]
      ]

  -- something is found exactly where a member passes
  pub is_some_find : (test : X → Bool) (xs : List X) {x : X} → Mem x xs → test x ≡ true → is_some (find test xs) ≡ true
  is_some_find test [] m pass = elim m [ ]
  is_some_find test (y ∷ ys) {x} m pass =
      cond_both (test y) (Some y) (find test ys) (λ o. is_some o ≡ true) (λ _. refl)
      (λ fail. elim (Mem-cons_cases m) [
        | inl same ↦ (let clash : true ≡ false = sym pass ∙ ap test (sym same) ∙ fail in cc)
        | inr n ↦ is_some_find test ys n pass
      ])

  found_case : (x : X) (pass any : Bool) (o : Option X) → is_some o ≡ any → is_some (cond pass (Some x) o) ≡ (pass || any)
  found_case x true any o e = refl
  found_case x false any o e = e

  pub found_any : (test : X → Bool) (xs : List X) → is_some (find test xs) ≡ list_any test xs
  found_any test [] = refl
  found_any test (x ∷ xs) = found_case x (test x) (list_any test xs) (find test xs) (found_any test xs)

  found_go : (test : X → Bool) (xs : List X) (o : Option X) → find test xs ≡ o → is_some o ≡ true
      → (x : X) × (find test xs ≡ Some x) × Mem x xs × (test x ≡ true)
  found_go test xs None e is = cc
  found_go test xs (Some x) e is = let w = member_from_find test xs x e in (x, e, w.0, w.1)

  pub found : (test : X → Bool) (xs : List X) → is_some (find test xs) ≡ true
      → (x : X) × (find test xs ≡ Some x) × Mem x xs × (test x ≡ true)
  found test xs is = found_go test xs (find test xs) refl is

  -- the only member that passes is the one found
  pub find-only : (test : X → Bool) (xs : List X) {x : X} → Mem x xs → test x ≡ true
      → ((y : X) → Mem y xs → test y ≡ true → y ≡ x) → find test xs ≡ Some x
  find-only test xs {x} m pass only =
      let w = found test xs (is_some_find test xs m pass) in w.1 ∙ ap Some (only w.0 w.2 w.3)

  -- a look-up in the members that pass another test, where what is looked for passes it
  pub find-filter : (wanted kept : X → Bool) → ((x : X) → wanted x ≡ true → kept x ≡ true) → (xs : List X)
      → find wanted (filter kept xs) ≡ find wanted xs
  find-filter wanted kept keeps [] = refl
  find-filter wanted kept keeps (x ∷ xs) =
      cond_both (kept x) (x ∷ filter kept xs) (filter kept xs) (λ zs. find wanted zs ≡ cond (wanted x) (Some x) (find wanted xs))
      (λ _. ap (λ o. cond (wanted x) (Some x) o) (find-filter wanted kept keeps xs))
      (λ lost. find-filter wanted kept keeps xs
      ∙ sym (cond-false (wanted x) _ _ (false_from_ne_true (wanted x) (λ pass. false≢true (sym lost ∙ keeps x pass)))))

  -- a filter that drops a member leaves fewer
  pub length-filter : (test : X → Bool) (xs : List X) → length (filter test xs) ≤ length xs
  length-filter test [] = omega arith
  length-filter test (x ∷ xs) =
      cond_both (test x) (x ∷ filter test xs) (filter test xs) (λ zs. length zs ≤ length (x ∷ xs))
      (λ _. let less = length-filter test xs in omega arith) (λ _. let less = length-filter test xs in omega arith)

  pub length-filter_drops : {x : X} (test : X → Bool) (xs : List X) → Mem x xs → test x ≡ false → length (filter test xs) < length xs
  length-filter_drops test [] m fail = elim m [ ]
  length-filter_drops {x} test (y ∷ ys) m fail =
      cond_both (test y) (y ∷ filter test ys) (filter test ys) (λ zs. length zs < length (y ∷ ys))
      (λ pass. elim (Mem-cons_cases m) [
        | inl e ↦ absurd (false≢true (sym fail ∙ ap test (sym e) ∙ pass))
        | inr n ↦ (let less = length-filter_drops test ys n fail in omega arith)
      ])
      (λ _. let less = length-filter test ys in omega arith)

  -- a list in another order has the same members
  pub Mem-permutation : (xs ys : List X) → IsPermutation xs ys → {x : X} → Mem x xs → Mem x ys
  Mem-permutation xs ys moved {x} m =
      Mem-from_Contains ys x (Contains-permutation xs ys x moved (Contains-member xs m))

  pub Mem-unpermutation : (xs ys : List X) → IsPermutation xs ys → {x : X} → Mem x ys → Mem x xs
  Mem-unpermutation xs ys moved m = Mem-permutation ys xs (IsPermutation-sym xs ys moved) m
