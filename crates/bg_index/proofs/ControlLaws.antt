-- Entries of controls: one more among the others, and one more node in one of them.
use Rattle.std.proofs.Common.{◌≡◌, ℕ, zero, suc, ◌<◌, ◌≤◌, ◌==◌, Bool, Less, Equal, Greater, None, Ok, Err, List, [], ◌∷◌, ◌++◌, ◌⊎◌, inl, inr, length, map, filter, take, drop, find, slice_set, nat_cmp, is_eq, refl, sym, ap, subst, ◌∙◌, arith, eq-eqb, eqb-true, append-nil}
use Rattle.std.specs.Ordering.{ordering_reverse}
use Rattle.std.specs.List.Sorted.{IsStrictlySortedBy, IsBinarySearchResult, IsPartitionPoint}
use Rattle.std.proofs.lemmas.Bool.{cases_Bool, cases_eq, cond-true, cond-false, false_from_ne_true}
use Rattle.std.proofs.lemmas.Cmp.{nat_cmp_total, on_total}
use Rattle.std.proofs.lemmas.List.{take-append-drop, map-append}
use Rattle.std.proofs.lemmas.List.Sorted.{searchable_from_sorted}
use Rattle.bg_lists.specs.Lists.{Mem, there, At, at_here, at_there}
use Rattle.bg_lists.specs.Orders.{Ascending, asc_nil, asc_cons}
use Rattle.bg_lists.proofs.Ascents.{Ascending-from_sorted, sorted_from_Ascending, Ascending-map, Ascending-unmap, one_place}
use Rattle.bg_lists.proofs.Comparisons.{Less-not_itself, eqb-nat_cmp}
use Rattle.bg_lists.proofs.Members.{Mem-cons_cases, Mem-append_left, Mem-append_right, Mem-append_cases}
use Rattle.bg_lists.proofs.Places.{not_At-nil, At-below, At-total, At-from_Mem, Mem-from_At, At-one, At-same, At-map, get_or-At}
use Rattle.bg_lists.proofs.Searches.{rising_from_Ascending}
use Rattle.bg_base.specs.declared.big.NodeRow.{NodeRow}
use Rattle.bg_rules.specs.Lookups.{nodes_with}
use Rattle.bg_index.specs.declared.entries.ControlEntry.{ControlEntry}
use Rattle.bg_index.specs.Indexed.{control_cmp, AreSorted}
use Rattle.bg_index.proofs.IndexLaws.{none_there}

-- ---- parts of a list

mem_front : {X : Type 0} {y : X} (n : ℕ) (xs : List X) → Mem y (take n xs) → Mem y xs
mem_front {y} n xs m = subst (λ zs. Mem y zs) (take-append-drop n xs) (Mem-append_left (take n xs) (drop n xs) m)

mem_back : {X : Type 0} {y : X} (n : ℕ) (xs : List X) → Mem y (drop n xs) → Mem y xs
mem_back {y} n xs m = subst (λ zs. Mem y zs) (take-append-drop n xs) (Mem-append_right (take n xs) (drop n xs) m)

module _ {X : Type 0} (x : X) where
  -- a member of a list into which x is put is x, or was a member
  insert_cases : {y : X} (n : ℕ) (xs : List X) → Mem y (take n xs ++ x ∷ drop n xs) → (x ≡ y) ⊎ Mem y xs
  insert_cases n xs m =
      elim (Mem-append_cases (take n xs) (x ∷ drop n xs) m) [
        | inl k ↦ inr (mem_front n xs k)
        | inr k ↦ elim (Mem-cons_cases k) [ inl e ↦ inl e | inr l ↦ inr (mem_back n xs l) ]
      ]

  insert_keeps : {y : X} (n : ℕ) (xs : List X) → Mem y xs → Mem y (take n xs ++ x ∷ drop n xs)
  insert_keeps {y} n xs m =
      elim (Mem-append_cases (take n xs) (drop n xs) (subst (λ zs. Mem y zs) (sym (take-append-drop n xs)) m)) [
        | inl k ↦ Mem-append_left (take n xs) (x ∷ drop n xs) k
        | inr k ↦ Mem-append_right (take n xs) (x ∷ drop n xs) (there k)
      ]

  insert_at : (n : ℕ) (xs : List X) → n ≤ length xs → At x n (take n xs ++ x ∷ drop n xs)
  insert_at zero xs le = at_here refl
  insert_at (suc n) [] le = absurd (omega arith)
  insert_at (suc n) (y ∷ ys) le = at_there (insert_at n ys (omega arith))

  insert_ascends : {Below : X → X → Type 0} (n : ℕ) (xs : List X) → Ascending Below xs
      → ((k : ℕ) (y : X) → k < n → At y k xs → Below y x) → ((k : ℕ) (y : X) → n ≤ k → At y k xs → Below x y)
      → Ascending Below (take n xs ++ x ∷ drop n xs)
  insert_ascends zero xs up low high = asc_cons (λ y m. let w = At-from_Mem m in high w.0 y (omega arith) w.1) up
  insert_ascends (suc n) [] up low high = asc_cons (λ y m. elim m [ ]) asc_nil
  insert_ascends {Below} (suc n) (y ∷ ys) (asc_cons below rest) low high =
      asc_cons
      (λ z m. elim (insert_cases n ys m) [
        | inl e ↦ subst (λ z. Below y z) e (low 0 y (omega arith) (at_here refl))
        | inr k ↦ below z k
      ])
      (insert_ascends n ys rest (λ k z less a. low (suc k) z (omega arith) (at_there a)) (λ k z le a. high (suc k) z (omega arith) (at_there a)))

pub none_sorted : AreSorted [] []
none_sorted =
    record { controls_ascend = sorted_from_Ascending {cmp = control_cmp} [] asc_nil; controls_are = λ entry m. elim m [ ]; each_there = λ row m. elim m [ ] }

-- ---- a control that is there

pub found_there : (controls : List ControlEntry) (control at : ℕ) → at < length controls
    → IsBinarySearchResult (λ (entry : ControlEntry). nat_cmp entry.control control) controls (Ok at)
    → (entry : ControlEntry) × At entry at controls × (entry.control ≡ control)
found_there controls control at below answer =
    let w = At-total controls at below in
    let tied : nat_cmp w.0.control control ≡ Equal =
    subst (λ (entry : ControlEntry). nat_cmp entry.control control ≡ Equal) (get_or-At controls w.0 w.1) (answer w.0) in
    (w.0, w.1, eqb-true w.0.control control (eqb-nat_cmp w.0.control control ∙ ap is_eq tied))

-- ---- one more control

module _ (controls : List ControlEntry) (control : ℕ) (up : IsStrictlySortedBy control_cmp controls) (at : ℕ) (inside : at ≤ length controls)
    (answer : IsBinarySearchResult (λ (entry : ControlEntry). nat_cmp entry.control control) controls (Err at))
    (entry : ControlEntry) (named : entry.control ≡ control) where
  abbrev more : List ControlEntry
  more = take at controls ++ entry ∷ drop at controls

  parts : IsPartitionPoint (λ (e : ControlEntry). nat_cmp e.control control ≡ Less) (λ (e : ControlEntry). nat_cmp e.control control ≡ Greater) controls at
  parts =
      answer (searchable_from_sorted nat_cmp_total (λ (e : ControlEntry). e.control) controls control
      (rising_from_Ascending (on_total (λ (e : ControlEntry). e.control) nat_cmp_total) controls (Ascending-from_sorted controls up)))

  pub more_ascends : IsStrictlySortedBy control_cmp more
  more_ascends =
      sorted_from_Ascending {cmp = control_cmp} more
      (insert_ascends entry at controls (Ascending-from_sorted controls up)
      (λ k e less a. subst (λ n. nat_cmp e.control n ≡ Less) (sym named)
      (subst (λ (x : ControlEntry). nat_cmp x.control control ≡ Less) (get_or-At controls e a) (parts.0 k e (omega arith) less)))
      (λ k e le a. subst (λ n. nat_cmp n e.control ≡ Less) (sym named)
      (nat_cmp_total.antisymm control e.control
      ∙ ap ordering_reverse (subst (λ (x : ControlEntry). nat_cmp x.control control ≡ Greater) (get_or-At controls e a) (parts.1 k e le (At-below a))))))

  pub more_there : (found : ControlEntry) × At found at more × (found.control ≡ control)
  more_there = (entry, insert_at entry at controls inside, named)

  pub more_sorted : (rows : List NodeRow) → find (λ (e : ControlEntry). e.control == control) controls ≡ None → entry.nodes.items ≡ []
      → AreSorted rows controls → AreSorted rows more
  more_sorted rows none empty sorted =
      record {
        controls_ascend = more_ascends;
        controls_are = λ e m. elim (insert_cases entry at controls m) [
          | inl same ↦ subst (λ (x : ControlEntry). x.nodes.items ≡ nodes_with x.control rows) same
              (empty ∙ sym (ap (λ n. nodes_with n rows) named ∙ none_there rows controls sorted control none))
          | inr k ↦ sorted.controls_are e k
        ];
        each_there = λ row m. let w = sorted.each_there row m in (w.0, insert_keeps entry at controls w.1, w.2);
      }

-- ---- one more node

pub filter-append : {X : Type 0} (test : X → Bool) (xs ys : List X) → filter test (xs ++ ys) ≡ filter test xs ++ filter test ys
filter-append test [] ys = refl
filter-append test (x ∷ xs) ys =
    elim (cases_Bool (test x)) [
      | inl e ↦ cond-true (test x) (x ∷ filter test (xs ++ ys)) (filter test (xs ++ ys)) e ∙ ap (λ zs. x ∷ zs) (filter-append test xs ys)
          ∙ sym (ap (λ zs. zs ++ filter test ys) (cond-true (test x) (x ∷ filter test xs) (filter test xs) e))
      | inr e ↦ cond-false (test x) (x ∷ filter test (xs ++ ys)) (filter test (xs ++ ys)) e ∙ filter-append test xs ys
          ∙ sym (ap (λ zs. zs ++ filter test ys) (cond-false (test x) (x ∷ filter test xs) (filter test xs) e))
    ]

module _ (rows : List NodeRow) (row : NodeRow) where
  with_one : (control : ℕ) → nodes_with control (rows ++ row ∷ []) ≡ nodes_with control rows ++ nodes_with control (row ∷ [])
  with_one control =
      ap (map (λ (r : NodeRow). r.id)) (filter-append (λ (r : NodeRow). r.control == control) rows (row ∷ []))
      ∙ map-append (λ (r : NodeRow). r.id) (filter (λ (r : NodeRow). r.control == control) rows) (filter (λ (r : NodeRow). r.control == control) (row ∷ []))

  pub with_its : (control : ℕ) → row.control ≡ control → nodes_with control (rows ++ row ∷ []) ≡ nodes_with control rows ++ row.id ∷ []
  with_its control e =
      with_one control
      ∙ ap (λ xs. nodes_with control rows ++ map (λ (r : NodeRow). r.id) xs) (cond-true (row.control == control) (row ∷ []) [] (eq-eqb row.control control e))

  pub with_other : (control : ℕ) → (row.control ≡ control → ⊥) → nodes_with control (rows ++ row ∷ []) ≡ nodes_with control rows
  with_other control differ =
      with_one control
      ∙ ap (λ xs. nodes_with control rows ++ map (λ (r : NodeRow). r.id) xs)
      (cond-false (row.control == control) (row ∷ []) [] (false_from_ne_true (row.control == control) (λ t. differ (eqb-true row.control control t))))
      ∙ append-nil (nodes_with control rows)

-- what stands at a place after one item was set
pub set_cases : {X : Type 0} {y : X} {k : ℕ} (xs : List X) (at : ℕ) (x : X) → At y k (slice_set xs at x) → ((k ≡ at) × (x ≡ y)) ⊎ ((k ≡ at → ⊥) × At y k xs)
set_cases [] at x a = absurd (not_At-nil a)
set_cases (z ∷ zs) zero x (at_here e) = inl (refl, e)
set_cases (z ∷ zs) zero x (at_there a) = inr ((λ e. absurd (omega (arith, e))), at_there a)
set_cases (z ∷ zs) (suc at) x (at_here e) = inr ((λ e. absurd (omega (arith, e))), at_here e)
set_cases (z ∷ zs) (suc at) x (at_there a) =
    elim (set_cases zs at x a) [
      | inl w ↦ inl (ap suc w.0, w.1)
      | inr w ↦ inr ((λ e. w.0 (omega (arith, e))), at_there w.1)
    ]

pub length-set : {X : Type 0} (xs : List X) (at : ℕ) (x : X) → length (slice_set xs at x) ≡ length xs
length-set [] at x = refl
length-set (z ∷ zs) zero x = refl
length-set (z ∷ zs) (suc at) x = ap suc (length-set zs at x)

set_at : {X : Type 0} {y : X} (xs : List X) (at : ℕ) (x : X) → At y at xs → At x at (slice_set xs at x)
set_at [] at x a = absurd (not_At-nil a)
set_at (z ∷ zs) zero x a = at_here refl
set_at (z ∷ zs) (suc at) x (at_there a) = at_there (set_at zs at x a)

set_other : {X : Type 0} {y : X} {k : ℕ} (xs : List X) (at : ℕ) (x : X) → (k ≡ at → ⊥) → At y k xs → At y k (slice_set xs at x)
set_other [] at x differ a = absurd (not_At-nil a)
set_other (z ∷ zs) zero x differ (at_here e) = absurd (differ refl)
set_other (z ∷ zs) zero x differ (at_there a) = at_there a
set_other (z ∷ zs) (suc at) x differ (at_here e) = at_here e
set_other (z ∷ zs) (suc at) x differ (at_there a) = at_there (set_other zs at x (λ e. differ (ap suc e)) a)

module _ (controls : List ControlEntry) (at : ℕ) (was new : ControlEntry) (stood : At was at controls) (named : new.control ≡ was.control) where
  abbrev set : List ControlEntry
  set = slice_set controls at new

  set_controls : map (λ (e : ControlEntry). e.control) set ≡ map (λ (e : ControlEntry). e.control) controls
  set_controls = same controls at stood
    where
      same : (xs : List ControlEntry) (n : ℕ) → At was n xs → map (λ (e : ControlEntry). e.control) (slice_set xs n new) ≡ map (λ (e : ControlEntry). e.control) xs
      same [] n a = absurd (not_At-nil a)
      same (x ∷ xs) zero (at_here e) = ap (λ n. n ∷ map (λ (e : ControlEntry). e.control) xs) (named ∙ ap (λ (e : ControlEntry). e.control) (sym e))
      same (x ∷ xs) (suc n) (at_there a) = ap (λ ns. x.control ∷ ns) (same xs n a)

  pub set_ascends : IsStrictlySortedBy control_cmp controls → IsStrictlySortedBy control_cmp set
  set_ascends up =
      sorted_from_Ascending {cmp = control_cmp} set
      (Ascending-unmap (λ (e : ControlEntry). e.control) set
      (subst (λ ns. Ascending (λ a b. nat_cmp a b ≡ Less) ns) (sym set_controls)
      (Ascending-map (λ (e : ControlEntry). e.control) controls (λ x y less. less) (Ascending-from_sorted controls up))))

  module _ (up : IsStrictlySortedBy control_cmp controls) (rows : List NodeRow) (row : NodeRow) (its : row.control ≡ was.control)
      (nodes : new.nodes.items ≡ was.nodes.items ++ row.id ∷ []) (sorted : AreSorted rows controls) where
    -- another place has another control
    apart : {k : ℕ} {other : ControlEntry} → (k ≡ at → ⊥) → At other k controls → row.control ≡ other.control → ⊥
    apart differ a e =
        differ (one_place {Below = λ m n. nat_cmp m n ≡ Less} (map (λ (e : ControlEntry). e.control) controls) (λ n less. Less-not_itself nat_cmp_total n less)
        (Ascending-map (λ (e : ControlEntry). e.control) controls (λ x y less. less) (Ascending-from_sorted controls up))
        (At-same (sym (sym its ∙ e)) (At-map (λ (e : ControlEntry). e.control) a)) (At-map (λ (e : ControlEntry). e.control) stood))

    pub set_sorted : AreSorted (rows ++ row ∷ []) set
    set_sorted =
        record {
          controls_ascend = set_ascends up;
          controls_are = λ e m. let w = At-from_Mem m in
              elim (set_cases controls at new w.1) [
                | inl v ↦ subst (λ (x : ControlEntry). x.nodes.items ≡ nodes_with x.control (rows ++ row ∷ [])) v.1
                    (nodes ∙ ap (λ xs. xs ++ row.id ∷ []) (sorted.controls_are was (Mem-from_At stood) ∙ ap (λ n. nodes_with n rows) (sym named))
                    ∙ sym (with_its rows row new.control (its ∙ sym named)))
                | inr v ↦ sorted.controls_are e (Mem-from_At v.1) ∙ sym (with_other rows row e.control (apart v.0 v.1))
              ];
          each_there = λ r m. elim (Mem-append_cases rows (row ∷ []) m) [
            | inl k ↦ (let w = sorted.each_there r k in there_still w.0 w.1 w.2)
            | inr k ↦ (let e : row ≡ r = elim (Mem-cons_cases k) [ inl e ↦ e | inr l ↦ elim l [ ] ] in
                (new, Mem-from_At (set_at controls at new stood), named ∙ sym its ∙ ap (λ (x : NodeRow). x.control) e))
          ];
        }
      where
        there_still : {control : ℕ} (e : ControlEntry) → Mem e controls → e.control ≡ control → (f : ControlEntry) × Mem f set × (f.control ≡ control)
        there_still e m same =
            let w = At-from_Mem m in
            elim (cases_eq w.0 at) [
              | inl k ↦ (
                new,
                Mem-from_At (set_at controls at new stood),
                named ∙ ap (λ (x : ControlEntry). x.control) (At-one stood (subst (λ n. At e n controls) k w.1)) ∙ same,
              )
              | inr differ ↦ (e, Mem-from_At (set_other controls at new differ w.1), same)
            ]
