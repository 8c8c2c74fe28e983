-- Controls that become visible one by one.
use Rattle.std.proofs.Common.{◌≡◌, ◌≤◌, ◌+◌, ◌++◌, ◌∷◌, [], inl, inr, ℕ, suc, arith, cond, not, Bool, true, false, List, length, Option, Some, None, refl, sym, ap, subst, ◌∙◌}
use Rattle.std.proofs.lemmas.Bool.Decides.{nat_tests}
use Rattle.std.specs.Prelude.{All, is_none, position, nat_lt}
use Rattle.std.specs.List.{position_or_len}
use Rattle.std.specs.Cmp.Lexicographic.{other_text}
use Rattle.bg_lists.specs.Lists.{Mem, here, there}
use Rattle.bg_lists.proofs.Members.{Mem-append_cases, Mem-map, Mem-unmap}
use Rattle.bg_lists.proofs.Words.{All-from_members}
use Rattle.bg_values.specs.Names.{NamedValue, name_number, same_word, words}
use Rattle.bg_terms.specs.declared.shape.ControlEntry.{ControlEntry}
use Rattle.bg_terms.specs.declared.shape.Shape.{Shape}
use Rattle.bg_terms.specs.Read.{shapes_of, AreControls}
use Rattle.bg_terms.specs.Shapes.{AreShapes}
use Rattle.bg_base.specs.Limits.{most_ports}

-- ---- a word that is not there

lower : (n m : ℕ) → cond (nat_lt (1 + n) (suc m)) (Some (1 + n)) None ≡ None → cond (nat_lt n m) (Some n) None ≡ None
lower n m is = by (nat_lt n m) (ap (λ b. cond b (Some (1 + n)) None) (sym same) ∙ is)
  where
    same : nat_lt (1 + n) (suc m) ≡ nat_lt n m
    same = grind (arith, nat_tests)

    by : (b : Bool) → cond b (Some (1 + n)) None ≡ None → cond b (Some n) None ≡ None
    by true e = absurd cc
    by false e = refl

none_passes : {X : Type 0} (test : X → Bool) (xs : List X) → position test xs ≡ None → (x : X) → Mem x xs → test x ≡ false
none_passes test [] none x m = elim m [ ]
none_passes test (y ∷ ys) none x m = by (test y) refl none (λ none_behind l. none_passes test ys none_behind x l)
  where
    by : (b : Bool) → test y ≡ b
        → cond (nat_lt (cond (not b) (1 + position_or_len test ys) 0) (suc (length ys))) (Some (cond (not b) (1 + position_or_len test ys) 0)) None ≡ None
        → (position test ys ≡ None → Mem x ys → test x ≡ false) → test x ≡ false
    by true e is others =
        let below : nat_lt 0 (suc (length ys)) ≡ true = grind (arith, nat_tests) in
        let some : ◌≡◌ {A = Option ℕ} (Some 0) None = sym (ap (λ b. cond b (Some 0) None) below) ∙ is in
        absurd cc
    by false e is others = elim m [ here same ↦ ap test (sym same) ∙ e | there l ↦ others (lower (position_or_len test ys) (length ys) is) l ]

is_none_from : {X : Type 0} (o : Option X) → is_none o ≡ true → o ≡ None
is_none_from None is = refl
is_none_from (Some x) is = absurd cc

word_new : (word : List ℕ) (controls : List (NamedValue ControlEntry)) → is_none (name_number word controls) ≡ true
    → (control : NamedValue ControlEntry) → Mem control controls → control.0 ≡ word → ⊥
word_new word controls none control m same =
    other_text word control.0
    (sym (none_passes (same_word word) (words controls) (is_none_from (name_number word controls) none) control.0 (Mem-map (λ (e : NamedValue ControlEntry). e.0) m))) (sym same)

-- ---- one more control

pub only_one : {X : Type 0} {x y : X} → Mem x (y ∷ []) → y ≡ x
only_one (here same) = same
only_one (there m) = elim m [ ]

pub controls_none : AreControls []
controls_none = record { named = λ control m. elim m [ ]; small = λ control m. elim m [ ]; once = λ x y m n same. elim m [ ] }

module _ (controls : List (NamedValue ControlEntry)) (word : List ℕ) (entry : ControlEntry) (are : AreControls controls)
    (none : is_none (name_number word controls) ≡ true) (named : entry.shape.word ≡ word) (small : entry.shape.arity ≤ most_ports) where
  abbrev last : NamedValue ControlEntry
  last = (word, entry)

  -- what holds of the controls that are there and of the last one
  of_each : (P : NamedValue ControlEntry → Type 0) → ((control : NamedValue ControlEntry) → Mem control controls → P control) → P last
      → (control : NamedValue ControlEntry) → Mem control (controls ++ last ∷ []) → P control
  of_each P old new control m = elim (Mem-append_cases controls (last ∷ []) m) [ inl l ↦ old control l | inr r ↦ subst P (only_one r) new ]

  pub controls_more : AreControls (controls ++ last ∷ [])
  controls_more = record {
    named = of_each (λ control. control.1.shape.word ≡ control.0) are.named named;
    small = of_each (λ control. control.1.shape.arity ≤ most_ports) are.small small;
    once = λ x y m n. of_each (λ a. a.0 ≡ y.0 → a ≡ y)
        (λ a a_in. of_each (λ b. a.0 ≡ b.0 → a ≡ b) (λ b b_in. are.once a b a_in b_in) (λ same. absurd (word_new word controls none a a_in same)) y n)
        (of_each (λ b. word ≡ b.0 → last ≡ b) (λ b b_in same. absurd (word_new word controls none b b_in (sym same))) (λ same. refl) y n) x m;
  }

-- ---- their shapes

pub controls_shapes : (controls : List (NamedValue ControlEntry)) → AreControls controls → AreShapes (shapes_of controls)
controls_shapes controls are = record {
  small = λ shape m. let w = from shape m in subst (λ (s : Shape). s.arity ≤ most_ports) w.2 (are.small w.0 w.1);
  once = λ x y m n same. let v = from x m in
      let w = from y n in
      let words_same : v.0.0 ≡ w.0.0 =
      sym (are.named v.0 v.1) ∙ ap (λ (s : Shape). s.word) v.2 ∙ same ∙ sym (ap (λ (s : Shape). s.word) w.2) ∙ are.named w.0 w.1 in
      sym v.2 ∙ ap (λ (control : NamedValue ControlEntry). control.1.shape) (are.once v.0 w.0 v.1 w.1 words_same) ∙ w.2;
}
  where
    from : (shape : Shape) → Mem shape (shapes_of controls) → (control : NamedValue ControlEntry) × Mem control controls × (control.1.shape ≡ shape)
    from shape m = Mem-unmap (λ (control : NamedValue ControlEntry). control.1.shape) controls m

pub controls_small : (controls : List (NamedValue ControlEntry)) → AreControls controls → All (λ (shape : Shape). shape.arity ≤ most_ports) (shapes_of controls)
controls_small controls are = All-from_members (λ (shape : Shape). shape.arity ≤ most_ports) (shapes_of controls) (controls_shapes controls are).small
