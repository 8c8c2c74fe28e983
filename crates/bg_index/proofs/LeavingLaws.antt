-- Points on nodes that are gone are left out of points that ascend.
use Rattle.std.proofs.Common.{◌≡◌, ◌⊎◌, ℕ, ◌<◌, ◌≤◌, ◌==◌, Bool, true, false, not, nat_cmp, ltb, leb, Less, Greater, List, [], ◌∷◌, ◌++◌, inl, inr, filter, length, take, drop, get_or, refl, sym, ap, subst, ◌∙◌, arith, ltb-true, lt-ltb, leb-true, le-leb, eqb-true, eq-eqb}
use Rattle.std.specs.Cmp.{nat_cmp_is}
use Rattle.std.specs.List.Sorted.{IsPartitionedBy, IsPartitionPoint, IsStrictlySortedBy}
use Rattle.std.specs.Ordering.{ordering_then}
use Rattle.std.proofs.lemmas.Bool.{cases_lt, cases_order, cond-true, cond-false, false≢true, false_from_ne_true, not-true}
use Rattle.bg_lists.specs.Lists.{here}
use Rattle.bg_lists.specs.Orders.{Ascending, asc_cons}
use Rattle.bg_lists.proofs.Ascents.{Ascending-filter, Ascending-from_sorted, Below-by_places, sorted_from_Ascending}
use Rattle.bg_lists.proofs.Groups.{filter_none}
use Rattle.bg_lists.proofs.Members.{Mem-append_left, Mem-append_right, Mem-append_cases, Mem-cons_cases, Mem-unfilter, filter_agree_on}
use Rattle.bg_lists.proofs.Places.{At-get_or}
use Rattle.bg_lists.proofs.Tests.{same_test}
use Rattle.bg_link.specs.declared.graph.Point.{Point}
use Rattle.bg_link.specs.declared.graph.Point.TheVariants.{Port, Inner}
use Rattle.bg_link.specs.Rows.{point_cmp}
use Rattle.bg_rewriting.specs.Keeping.{stays_at}
use Rattle.bg_rules.specs.Instantiation.{is_among}
use Rattle.bg_rules.proofs.Upwards.{is_among-member, member_from_is_among}
use Rattle.bg_index.specs.Leaving.{is_before, is_up_to}
use Rattle.bg_index.specs.Plans.{points_left}
use Rattle.bg_index.proofs.KeyLaws.{filter_all, filter_twice}
use Rattle.bg_index.proofs.SpanLaws.{front_is, back_is}

-- ---- tests of points that ascend

ports_rise : (m i n j : ℕ) → point_cmp (Port m i) (Port n j) ≡ Less → m ≤ n
ports_rise m i n j less =
    elim (cases_lt n m) [
      | inl back ↦ (let bad : Less ≡ Greater = sym less ∙ ap (λ o. ordering_then o (nat_cmp i j)) (sym (nat_cmp_is m n Greater back)) in absurd cc)
      | inr most ↦ most
    ]

before_back : (node : ℕ) (x y : Point) → point_cmp x y ≡ Less → is_before node y ≡ true → is_before node x ≡ true
before_back node (Port m i) (Port n j) less e =
    let rise = ports_rise m i n j less in let low = ltb-true n node e in lt-ltb m node (omega arith)
before_back node (Inner x) (Port n j) less e = absurd cc
before_back node x (Inner y) less e = absurd (false≢true e)

up_to_back : (node : ℕ) (x y : Point) → point_cmp x y ≡ Less → is_up_to node y ≡ true → is_up_to node x ≡ true
up_to_back node (Port m i) (Port n j) less e =
    let rise = ports_rise m i n j less in let low = leb-true n node e in le-leb m node (omega arith)
up_to_back node (Inner x) (Port n j) less e = absurd cc
up_to_back node x (Inner y) less e = absurd (false≢true e)

partitioned : (test : Point → Bool) → ((x y : Point) → point_cmp x y ≡ Less → test y ≡ true → test x ≡ true)
    → (xs : List Point) → IsStrictlySortedBy point_cmp xs → IsPartitionedBy test xs
partitioned test back xs up i j d up_to below pass =
    elim (cases_lt i j) [
      | inl less ↦ (let first : i < length xs = omega (arith, less, below) in
          back (get_or xs i d) (get_or xs j d)
          (Below-by_places xs (Ascending-from_sorted xs up) (At-get_or xs i d first) (At-get_or xs j d below) less) pass)
      | inr least ↦ (let same : j ≡ i = omega (arith, least, up_to) in subst (λ k. test (get_or xs k d) ≡ true) same pass)
    ]

-- ---- the points of a node

abbrev keeps : ℕ → Point → Bool
keeps node = stays_at (λ other. not (other == node))

-- a point is a port of a node below, of that one, or behind both
three : (node : ℕ) (x : Point) → ((is_before node x ≡ true) × (is_up_to node x ≡ true) × (keeps node x ≡ true))
    ⊎ (((is_before node x ≡ false) × (is_up_to node x ≡ true) × (keeps node x ≡ false))
    ⊎ ((is_before node x ≡ false) × (is_up_to node x ≡ false) × (keeps node x ≡ true)))
three node (Port own index) =
    elim (cases_order own node) [
      | inl same ↦ inr (inl (
        false_from_ne_true (ltb own node) (λ t. let less = ltb-true own node t in absurd (omega arith)),
        le-leb own node (omega arith),
        ap not (eq-eqb own node same),
      ))
      | inr rest ↦ elim rest [
        | inl less ↦ inl (
          lt-ltb own node less,
          le-leb own node (omega arith),
          ap not (false_from_ne_true (own == node) (λ t. let same = eqb-true own node t in absurd (omega arith))),
        )
        | inr more ↦ inr (inr (
          false_from_ne_true (ltb own node) (λ t. let less = ltb-true own node t in absurd (omega arith)),
          false_from_ne_true (leb own node) (λ t. let most = leb-true own node t in absurd (omega arith)),
          ap not (false_from_ne_true (own == node) (λ t. let same = eqb-true own node t in absurd (omega arith))),
        ))
      ]
    ]
three node (Inner name) = inr (inr (refl, refl, refl))

abbrev behind : ℕ → Point → Bool
behind node point = not (is_up_to node point)

-- the points below and those behind are those that are kept
parts_are : (node : ℕ) (xs : List Point) → Ascending (λ x y. point_cmp x y ≡ Less) xs
    → filter (is_before node) xs ++ filter (behind node) xs ≡ filter (keeps node) xs
parts_are node [] up = refl
parts_are node (x ∷ xs) (asc_cons low rest) =
    let more = parts_are node xs rest in
    let low_in : List Point = filter (is_before node) xs in
    let high_in : List Point = filter (behind node) xs in
    let kept_in : List Point = filter (keeps node) xs in
    elim (three node x) [
      | inl w ↦ ap (λ ys. ys ++ filter (behind node) (x ∷ xs)) (cond-true (is_before node x) (x ∷ low_in) low_in w.0)
          ∙ ap (λ ys. x ∷ (low_in ++ ys)) (cond-false (behind node x) (x ∷ high_in) high_in (ap not w.1))
          ∙ ap (λ ys. x ∷ ys) more ∙ sym (cond-true (keeps node x) (x ∷ kept_in) kept_in w.2)
      | inr v ↦ elim v [
        | inl w ↦ ap (λ ys. ys ++ filter (behind node) (x ∷ xs)) (cond-false (is_before node x) (x ∷ low_in) low_in w.0)
            ∙ ap (λ ys. low_in ++ ys) (cond-false (behind node x) (x ∷ high_in) high_in (ap not w.1))
            ∙ more ∙ sym (cond-false (keeps node x) (x ∷ kept_in) kept_in w.2)
        | inr w ↦ (let none : low_in ≡ [] = filter_none (is_before node) xs
            (λ y m. false_from_ne_true (is_before node y) (λ t. false≢true (sym w.0 ∙ before_back node x y (low y m) t))) in
            ap (λ ys. ys ++ filter (behind node) (x ∷ xs)) (cond-false (is_before node x) (x ∷ low_in) low_in w.0 ∙ none)
            ∙ cond-true (behind node x) (x ∷ high_in) high_in (ap not w.1)
            ∙ ap (λ ys. x ∷ ys) (sym (ap (λ ys. ys ++ high_in) none) ∙ more) ∙ sym (cond-true (keeps node x) (x ∷ kept_in) kept_in w.2))
      ]
    ]

module _ (node : ℕ) (xs : List Point) (start end : ℕ) (up : IsStrictlySortedBy point_cmp xs) (start_inside : start ≤ length xs) (end_inside : end ≤ length xs)
    (lower : IsPartitionedBy (is_before node) xs → IsPartitionPoint (λ y. is_before node y ≡ true) (λ y. is_before node y ≡ false) xs start)
    (upper : IsPartitionedBy (is_up_to node) xs → IsPartitionPoint (λ y. is_up_to node y ≡ true) (λ y. is_up_to node y ≡ false) xs end) where
  low : IsPartitionPoint (λ y. is_before node y ≡ true) (λ y. is_before node y ≡ false) xs start
  low = lower (partitioned (is_before node) (before_back node) xs up)

  high : IsPartitionPoint (λ y. is_up_to node y ≡ true) (λ y. is_up_to node y ≡ false) xs end
  high = upper (partitioned (is_up_to node) (up_to_back node) xs up)

  pub in_order : start ≤ end
  in_order =
      elim (cases_lt end start) [
        | inl less ↦ (let x : Point = get_or xs end (Port 0 0) in
            let first : is_before node x ≡ true = low.0 end (Port 0 0) (omega arith) less in
            let second : is_up_to node x ≡ false = high.1 end (Port 0 0) (omega arith) (omega (arith, less, start_inside)) in
            elim (three node x) [
              | inl w ↦ absurd (false≢true (sym second ∙ w.1))
              | inr v ↦ elim v [ inl w ↦ absurd (false≢true (sym w.0 ∙ first)) | inr w ↦ absurd (false≢true (sym w.0 ∙ first)) ]
            ])
        | inr most ↦ most
      ]

  pub taken_out : take start xs ++ drop end xs ≡ filter (stays_at (λ other. not (other == node))) xs
  taken_out =
      ap (λ ys. ys ++ drop end xs) (front_is (is_before node) xs start start_inside low)
      ∙ ap (λ ys. filter (is_before node) xs ++ ys) (back_is (is_up_to node) xs end end_inside high (behind node) (λ x. refl))
      ∙ parts_are node xs (Ascending-from_sorted xs up)

-- ---- the points of nodes, one node after the other

pub left_ascend : (gone : List ℕ) (xs ys : List Point) → ys ≡ points_left gone xs → IsStrictlySortedBy point_cmp xs → IsStrictlySortedBy point_cmp ys
left_ascend gone xs ys is up =
    subst (IsStrictlySortedBy point_cmp) (sym is)
    (sorted_from_Ascending {cmp = point_cmp} (points_left gone xs) (Ascending-filter (stays_at (λ node. not (is_among node gone))) xs (Ascending-from_sorted xs up)))

-- none of them are gone where nothing is
pub left_none : (xs : List Point) → xs ≡ points_left [] xs
left_none xs = sym (filter_all (stays_at (λ node. not (is_among node []))) xs (λ x m. stays x))
  where
    stays : (x : Point) → stays_at (λ node. not (is_among node [])) x ≡ true
    stays (Port node index) = refl
    stays (Inner name) = refl

-- one more is gone
pub left_more : (front : List ℕ) (node : ℕ) (xs ys zs : List Point) → ys ≡ points_left front xs
    → zs ≡ filter (stays_at (λ other. not (other == node))) ys → zs ≡ points_left (front ++ node ∷ []) xs
left_more front node xs ys zs first second =
    second ∙ ap (filter (keeps node)) first
    ∙ filter_agree_on (keeps node) strong (filter weak xs) (λ x m. same x (Mem-unfilter weak xs m).1)
    ∙ filter_twice strong weak weaker xs
  where
    weak : Point → Bool
    weak = stays_at (λ other. not (is_among other front))

    strong : Point → Bool
    strong = stays_at (λ other. not (is_among other (front ++ node ∷ [])))

    weaker : (x : Point) → strong x ≡ true → weak x ≡ true
    weaker (Port own index) s =
        ap not (false_from_ne_true (is_among own front) (λ t. false≢true (sym (not-true (is_among own (front ++ node ∷ [])) s)
        ∙ is_among-member (front ++ node ∷ []) (Mem-append_left front (node ∷ []) (member_from_is_among front own t)))))
    weaker (Inner name) s = refl

    same : (x : Point) → weak x ≡ true → keeps node x ≡ strong x
    same (Port own index) w =
        ap not (sym (same_test (is_among own (front ++ node ∷ [])) (own == node)
        (λ t. elim (Mem-append_cases front (node ∷ []) (member_from_is_among (front ++ node ∷ []) own t)) [
          | inl m ↦ absurd (false≢true (sym (not-true (is_among own front) w) ∙ is_among-member front m))
          | inr m ↦ elim (Mem-cons_cases m) [ inl e ↦ eq-eqb own node (sym e) | inr k ↦ elim k [ ] ]
        ])
        (λ t. is_among-member (front ++ node ∷ []) (Mem-append_right front (node ∷ []) (here (sym (eqb-true own node t)))))))
    same (Inner name) w = refl
