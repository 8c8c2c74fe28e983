-- Lists of items with keys that ascend: an item is set, a key is found; and numbers that are left out of a list.
use Rattle.std.proofs.Common.{◌≡◌, ℕ, zero, suc, ◌<◌, ◌≤◌, ◌+◌, ◌==◌, Bool, true, Less, Equal, None, Ok, Err, List, [], ◌∷◌, ◌++◌, inl, inr, length, map, filter, take, drop, find, not, slice_set, nat_cmp, is_eq, refl, sym, ap, subst, ◌∙◌, arith, eqb-true, eq-eqb, add-one}
use Rattle.std.specs.Ordering.{on}
use Rattle.std.specs.List.Sorted.{IsStrictlySortedBy, IsBinarySearchResult}
use Rattle.std.proofs.lemmas.Bool.{cases_Bool, false≢true, cond-true, cond-false, not-true, false_from_ne_true}
use Rattle.std.proofs.lemmas.Cmp.{nat_cmp_total}
use Rattle.bg_lists.specs.Lists.{Mem, here, there, At, at_here, at_there}
use Rattle.bg_lists.specs.Orders.{Ascending, asc_cons}
use Rattle.bg_lists.proofs.Ascents.{Ascending-from_sorted, sorted_from_Ascending, Ascending-filter, Ascending-map, Ascending-unmap, same_member, one_place}
use Rattle.bg_lists.proofs.Comparisons.{Less-not_itself, eqb-nat_cmp, tied_numbers}
use Rattle.bg_lists.proofs.Members.{Mem-cons_cases, Mem-map, Mem-unmap, Mem-unfilter, Mem-append_left, Mem-append_right, Mem-append_cases, filter_agree_on}
use Rattle.bg_lists.proofs.Places.{not_At-nil, At-total, At-from_Mem, Mem-from_At, At-map, At-same, get_or-At}
use Rattle.bg_lists.proofs.Searches.{find-search}
use Rattle.bg_lists.proofs.Tests.{same_test}
use Rattle.bg_lists.proofs.Words.{fails_from_find}
use Rattle.bg_rules.specs.Instantiation.{is_among}
use Rattle.bg_rules.proofs.Upwards.{is_among-member, member_from_is_among}
use Rattle.bg_index.specs.Commits.{AreFrom, IsThinned}
use Rattle.bg_index.proofs.ControlLaws.{set_cases}

-- ---- filters

module _ {X : Type 0} where
  pub filter_all : (test : X → Bool) (xs : List X) → ((x : X) → Mem x xs → test x ≡ true) → filter test xs ≡ xs
  filter_all test [] all = refl
  filter_all test (x ∷ xs) all =
      cond-true (test x) (x ∷ filter test xs) (filter test xs) (all x (here refl)) ∙ ap (λ zs. x ∷ zs) (filter_all test xs (λ y m. all y (there m)))

  -- a filter after a weaker one
  pub filter_twice : (strong weak : X → Bool) → ((x : X) → strong x ≡ true → weak x ≡ true) → (xs : List X) → filter strong (filter weak xs) ≡ filter strong xs
  filter_twice strong weak only [] = refl
  filter_twice strong weak only (x ∷ xs) =
      let rest = filter_twice strong weak only xs in
      elim (cases_Bool (weak x)) [
        | inl w ↦ ap (filter strong) (cond-true (weak x) (x ∷ filter weak xs) (filter weak xs) w)
            ∙ elim (cases_Bool (strong x)) [
              | inl s ↦ cond-true (strong x) (x ∷ filter strong (filter weak xs)) (filter strong (filter weak xs)) s ∙ ap (λ zs. x ∷ zs) rest
                  ∙ sym (cond-true (strong x) (x ∷ filter strong xs) (filter strong xs) s)
              | inr s ↦ cond-false (strong x) (x ∷ filter strong (filter weak xs)) (filter strong (filter weak xs)) s ∙ rest
                  ∙ sym (cond-false (strong x) (x ∷ filter strong xs) (filter strong xs) s)
            ]
        | inr w ↦ ap (filter strong) (cond-false (weak x) (x ∷ filter weak xs) (filter weak xs) w) ∙ rest
            ∙ sym (cond-false (strong x) (x ∷ filter strong xs) (filter strong xs)
            (false_from_ne_true (strong x) (λ s. false≢true (sym w ∙ only x s))))
      ]

  -- the item with a key is taken out
  pub removed : (key : X → ℕ) (number : ℕ) (at : ℕ) (x : X) (xs : List X) → Ascending (λ a b. nat_cmp (key a) (key b) ≡ Less) xs → At x at xs → key x ≡ number
      → take at xs ++ drop (suc at) xs ≡ filter (λ y. not (key y == number)) xs
  removed key number at x [] up a e = absurd (not_At-nil a)
  removed key number zero x (y ∷ ys) (asc_cons low rest) (at_here same) e =
      let its : key y ≡ number = ap key same ∙ e in
      sym (cond-false (not (key y == number)) (y ∷ filter (λ y. not (key y == number)) ys) (filter (λ y. not (key y == number)) ys) (ap not (eq-eqb (key y) number its))
      ∙ filter_all (λ y. not (key y == number)) ys
      (λ z m. ap not (false_from_ne_true (key z == number) (λ t. let less = low z m in
      Less-not_itself nat_cmp_total (key y) (subst (λ n. nat_cmp (key y) n ≡ Less) (eqb-true (key z) number t ∙ sym its) less)))))
  removed key number (suc at) x (y ∷ ys) (asc_cons low rest) (at_there a) e =
      ap (λ zs. y ∷ zs) (removed key number at x ys rest a e)
      ∙ sym (cond-true (not (key y == number)) (y ∷ filter (λ y. not (key y == number)) ys) (filter (λ y. not (key y == number)) ys)
      (ap not (false_from_ne_true (key y == number) (λ t. let less = low x (Mem-from_At a) in
      Less-not_itself nat_cmp_total (key y) (subst (λ n. nat_cmp (key y) n ≡ Less) (e ∙ sym (eqb-true (key y) number t)) less)))))

-- the whole of a list is in front of its end
pub take_past : {X : Type 0} (n : ℕ) (xs : List X) → length xs ≤ n → take n xs ≡ xs
take_past zero [] le = refl
take_past zero (x ∷ xs) le = absurd (omega arith)
take_past (suc n) [] le = refl
take_past (suc n) (x ∷ xs) le = ap (λ ys. x ∷ ys) (take_past n xs (omega arith))

-- ---- items with keys

module _ {X : Type 0} (key : X → ℕ) where
  pub from_same : (R : X → X → Type 0) (xs : List X) → ((x : X) → Mem x xs → R x x) → AreFrom key R xs xs
  from_same R xs same = record { keys = refl; each = λ x m. (x, m, refl, same x m) }

  pub from_on : (R S T : X → X → Type 0) (xs ys zs : List X) → AreFrom key R xs ys → AreFrom key S ys zs
      → ((x y z : X) → Mem x xs → Mem z zs → key x ≡ key y → key y ≡ key z → R x y → S y z → T x z) → AreFrom key T xs zs
  from_on R S T xs ys zs r s both =
      record {
        keys = s.keys ∙ r.keys;
        each = λ z m. let v = s.each z m in let w = r.each v.0 v.1 in (w.0, w.1, w.2 ∙ v.2, both w.0 v.0 z w.1 m w.2 v.2 w.3 v.3);
      }

  pub from_ascends : (R : X → X → Type 0) (xs ys : List X) → AreFrom key R xs ys → IsStrictlySortedBy (on key nat_cmp) xs → IsStrictlySortedBy (on key nat_cmp) ys
  from_ascends R xs ys from up =
      sorted_from_Ascending {cmp = on key nat_cmp} ys
      (Ascending-unmap key ys
      (subst (λ ns. Ascending (λ a b. nat_cmp a b ≡ Less) ns) (sym from.keys) (Ascending-map key xs (λ x y less. less) (Ascending-from_sorted xs up))))

  -- each that was there has its own
  pub from_there : (R : X → X → Type 0) (xs ys : List X) → AreFrom key R xs ys → IsStrictlySortedBy (on key nat_cmp) xs → (x : X) → Mem x xs
      → (y : X) × Mem y ys × (key y ≡ key x) × R x y
  from_there R xs ys from up x m =
      let w = Mem-unmap key ys (subst (λ ns. Mem (key x) ns) (sym from.keys) (Mem-map key m)) in
      let v = from.each w.0 w.1 in
      let same : v.0 ≡ x = same_member {cmp = on key nat_cmp} (Ascending-from_sorted xs up) v.1 m (tied_numbers (key v.0) (key x) (v.2 ∙ w.2))
      (tied_numbers (key x) (key v.0) (sym (v.2 ∙ w.2))) in
      (w.0, w.1, w.2, subst (λ z. R z w.0) same v.3)

  set_keys : (xs : List X) (at : ℕ) (stood new : X) → At stood at xs → key new ≡ key stood → map key (slice_set xs at new) ≡ map key xs
  set_keys [] at stood new a named = absurd (not_At-nil a)
  set_keys (x ∷ xs) zero stood new (at_here e) named = ap (λ n. n ∷ map key xs) (named ∙ ap key (sym e))
  set_keys (x ∷ xs) (suc at) stood new (at_there a) named = ap (λ ns. key x ∷ ns) (set_keys xs at stood new a named)

  pub from_set : (R : X → X → Type 0) (xs : List X) → IsStrictlySortedBy (on key nat_cmp) xs → (at : ℕ) (stood new : X) → At stood at xs → key new ≡ key stood
      → R stood new → ((x : X) → Mem x xs → (key x ≡ key stood → ⊥) → R x x) → AreFrom key R xs (slice_set xs at new)
  from_set R xs up at stood new a named is others =
      record {
        keys = set_keys xs at stood new a named;
        each = λ x m. let w = At-from_Mem m in
            elim (set_cases xs at new w.1) [
              | inl v ↦ (stood, Mem-from_At a, sym named ∙ ap key v.1, subst (λ y. R stood y) v.1 is)
              | inr v ↦ (
                x,
                Mem-from_At v.1,
                refl,
                others x (Mem-from_At v.1)
                    (λ e. v.0 (one_place {Below = λ m n. nat_cmp m n ≡ Less} (map key xs) (λ n less. Less-not_itself nat_cmp_total n less)
                    (Ascending-map key xs (λ x y less. less) (Ascending-from_sorted xs up)) (At-same e (At-map key v.1)) (At-map key a))),
              )
            ];
      }

  -- what a binary search answers
  pub key_found : (xs : List X) (number at : ℕ) → at < length xs → IsBinarySearchResult (λ (x : X). nat_cmp (key x) number) xs (Ok at)
      → (x : X) × At x at xs × (key x ≡ number)
  key_found xs number at below answer =
      let w = At-total xs at below in
      let tied : nat_cmp (key w.0) number ≡ Equal = subst (λ (x : X). nat_cmp (key x) number ≡ Equal) (get_or-At xs w.0 w.1) (answer w.0) in
      (w.0, w.1, eqb-true (key w.0) number (eqb-nat_cmp (key w.0) number ∙ ap is_eq tied))

  pub key_nowhere : (xs : List X) (number at : ℕ) → IsStrictlySortedBy (on key nat_cmp) xs → at ≤ length xs
      → IsBinarySearchResult (λ (x : X). nat_cmp (key x) number) xs (Err at) → (x : X) → Mem x xs → key x ≡ number → ⊥
  key_nowhere xs number at up inside answer x m e =
      let none : find (λ (x : X). key x == number) xs ≡ None
      = find-search nat_cmp_total key number (λ (x : X). key x == number) (λ x. eqb-nat_cmp (key x) number) xs (Ascending-from_sorted xs up) (Err at) inside answer in
      false≢true (sym (fails_from_find (λ (x : X). key x == number) xs none m) ∙ eq-eqb (key x) number e)

  -- the item with a key is taken out of the list
  pub one_removed : (xs ys : List X) (number at : ℕ) → IsStrictlySortedBy (on key nat_cmp) xs → at < length xs
      → IsBinarySearchResult (λ (x : X). nat_cmp (key x) number) xs (Ok at) → ys ≡ take at xs ++ drop (at + 1) xs
      → ys ≡ filter (λ x. not (key x == number)) xs
  one_removed xs ys number at up below answer is =
      let w = key_found xs number at below answer in
      is ∙ ap (λ k. take at xs ++ drop k xs) (add-one at) ∙ removed key number at w.0 xs (Ascending-from_sorted xs up) w.1 w.2

  pub none_removed : (xs : List X) (number at : ℕ) → IsStrictlySortedBy (on key nat_cmp) xs → at ≤ length xs
      → IsBinarySearchResult (λ (x : X). nat_cmp (key x) number) xs (Err at) → xs ≡ filter (λ x. not (key x == number)) xs
  none_removed xs number at up inside answer =
      sym (filter_all (λ x. not (key x == number)) xs
      (λ x m. ap not (false_from_ne_true (key x == number) (λ t. key_nowhere xs number at up inside answer x m (eqb-true (key x) number t)))))

  -- none of them are gone where nothing is
  pub removed_none : (xs : List X) → xs ≡ filter (λ x. not (is_among (key x) [])) xs
  removed_none xs = sym (filter_all (λ x. not (is_among (key x) [])) xs (λ x m. refl))

  pub left_ascends : (gone : List ℕ) (xs ys : List X) → ys ≡ filter (λ x. not (is_among (key x) gone)) xs → IsStrictlySortedBy (on key nat_cmp) xs
      → IsStrictlySortedBy (on key nat_cmp) ys
  left_ascends gone xs ys is up =
      subst (IsStrictlySortedBy (on key nat_cmp)) (sym is)
      (sorted_from_Ascending {cmp = on key nat_cmp} (filter (λ x. not (is_among (key x) gone)) xs)
      (Ascending-filter (λ x. not (is_among (key x) gone)) xs (Ascending-from_sorted xs up)))

  -- one more is gone
  pub removed_more : (front : List ℕ) (number : ℕ) (xs ys zs : List X) → ys ≡ filter (λ x. not (is_among (key x) front)) xs
      → zs ≡ filter (λ x. not (key x == number)) ys → zs ≡ filter (λ x. not (is_among (key x) (front ++ number ∷ []))) xs
  removed_more front number xs ys zs first second =
      second ∙ ap (filter (λ x. not (key x == number))) first
      ∙ filter_agree_on (λ x. not (key x == number)) strong (filter weak xs) (λ x m. ap not (sym (same x (Mem-unfilter weak xs m).1)))
      ∙ filter_twice strong weak weaker xs
    where
      weak : X → Bool
      weak = λ x. not (is_among (key x) front)

      strong : X → Bool
      strong = λ x. not (is_among (key x) (front ++ number ∷ []))

      weaker : (x : X) → strong x ≡ true → weak x ≡ true
      weaker x s =
          ap not (false_from_ne_true (is_among (key x) front) (λ t. false≢true (sym (not-true (is_among (key x) (front ++ number ∷ [])) s)
          ∙ is_among-member (front ++ number ∷ []) (Mem-append_left front (number ∷ []) (member_from_is_among front (key x) t)))))

      same : (x : X) → weak x ≡ true → is_among (key x) (front ++ number ∷ []) ≡ (key x == number)
      same x w =
          same_test (is_among (key x) (front ++ number ∷ [])) (key x == number)
          (λ t. elim (Mem-append_cases front (number ∷ []) (member_from_is_among (front ++ number ∷ []) (key x) t)) [
            | inl m ↦ absurd (false≢true (sym (not-true (is_among (key x) front) w) ∙ is_among-member front m))
            | inr m ↦ elim (Mem-cons_cases m) [ inl e ↦ eq-eqb (key x) number (sym e) | inr k ↦ elim k [ ] ]
          ])
          (λ t. is_among-member (front ++ number ∷ []) (Mem-append_right front (number ∷ []) (here (sym (eqb-true (key x) number t)))))

-- ---- numbers that are left out

pub thinned_same : (gone xs : List ℕ) → IsThinned gone xs xs
thinned_same gone xs = record { rest = refl; fewer = λ n m. m; ascends = λ up. up }

pub thinned_on : (gone xs ys zs : List ℕ) → IsThinned gone xs ys → IsThinned gone ys zs → IsThinned gone xs zs
thinned_on gone xs ys zs first second =
    record { rest = second.rest ∙ first.rest; fewer = λ n m. first.fewer n (second.fewer n m); ascends = λ up. second.ascends (first.ascends up) }

module _ (gone : List ℕ) where
  pub thinned_filter : (test : ℕ → Bool) → ((n : ℕ) → not (is_among n gone) ≡ true → test n ≡ true) → (xs ys : List ℕ) → ys ≡ filter test xs → IsThinned gone xs ys
  thinned_filter test only xs ys is =
      subst (IsThinned gone xs) (sym is)
      (record {
        rest = filter_twice (λ n. not (is_among n gone)) test only xs;
        fewer = λ n m. (Mem-unfilter test xs m).0;
        ascends = λ up. sorted_from_Ascending {cmp = nat_cmp} (filter test xs) (Ascending-filter test xs (Ascending-from_sorted xs up));
      })

  pub all_thinned : (xs ys : List ℕ) → ys ≡ filter (λ n. not (is_among n gone)) xs → IsThinned gone xs ys
  all_thinned xs ys is = thinned_filter (λ n. not (is_among n gone)) (λ n e. e) xs ys is

  pub all_out : (xs ys : List ℕ) → ys ≡ filter (λ n. not (is_among n gone)) xs → (number : ℕ) → is_among number gone ≡ true → Mem number ys → ⊥
  all_out xs ys is number among m =
      let w = Mem-unfilter (λ n. not (is_among n gone)) xs (subst (λ zs. Mem number zs) is m) in
      false≢true (sym (not-true (is_among number gone) w.1) ∙ among)

  module _ (xs ys : List ℕ) (up : IsStrictlySortedBy nat_cmp xs) (number at : ℕ) (stands : At number at xs) (is : ys ≡ take at xs ++ drop (at + 1) xs) where
    one_less : ys ≡ filter (λ n. not (n == number)) xs
    one_less =
        is ∙ ap (λ k. take at xs ++ drop k xs) (add-one at)
        ∙ removed (λ (n : ℕ). n) number at number xs (Ascending-from_sorted xs up) stands refl

    pub one_thinned : is_among number gone ≡ true → IsThinned gone xs ys
    one_thinned among =
        thinned_filter (λ n. not (n == number))
        (λ n keeps. ap not (false_from_ne_true (n == number)
        (λ t. false≢true (sym (not-true (is_among n gone) keeps) ∙ ap (λ k. is_among k gone) (eqb-true n number t) ∙ among))))
        xs ys one_less

    pub one_out : Mem number ys → ⊥
    one_out m =
        let w = Mem-unfilter (λ n. not (n == number)) xs (subst (λ zs. Mem number zs) one_less m) in
        false≢true (sym (not-true (number == number) w.1) ∙ eq-eqb number number refl)

  -- where all that are gone are out, those that stay are left
  pub thinned_all : (xs ys : List ℕ) → IsThinned gone xs ys → ((n : ℕ) → is_among n gone ≡ true → Mem n ys → ⊥) → ys ≡ filter (λ n. not (is_among n gone)) xs
  thinned_all xs ys is out =
      sym (filter_all (λ n. not (is_among n gone)) ys (λ n m. ap not (false_from_ne_true (is_among n gone) (λ t. out n t m)))) ∙ is.rest
