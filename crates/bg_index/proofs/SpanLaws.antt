-- Numbers that ascend, taken apart at a few cuts: what is left is in order, and has the numbers that stay and the cuts that stand.
use Rattle.std.proofs.Common.{◌≡◌, ◌↔◌, ◌⊎◌, ℕ, ◌+◌, ◌-◌, ◌<◌, ◌≤◌, Bool, true, false, not, nat_lt, nat_cmp, Less, List, [], ◌∷◌, ◌++◌, inl, inr, filter, length, take, drop, get_or, sym, ap, subst, ◌∙◌, arith, ltb, leb, ltb-true, lt-ltb, get_or-take, get_or-drop, length-take-le, length-drop, append-nil, append_assoc, take_all}
use Rattle.std.specs.List.Sorted.{IsPartitionedBy, IsPartitionPoint, IsStrictlySortedBy}
use Rattle.std.proofs.lemmas.Bool.{cases_order, cond_both, false≢true, not-true, not_from_false}
use Rattle.std.proofs.lemmas.Bool.Decides.{nat_tests}
use Rattle.std.proofs.lemmas.Cmp.{nat_cmp_total}
use Rattle.std.proofs.lemmas.List.{at_drop_all, at_drop_more, take-append-drop}
use Rattle.std.proofs.lemmas.List.Elements.{filter-append}
use Rattle.std.proofs.lemmas.List.Sorted.{IsPartitionedBy-leb, IsPartitionedBy-ltb}
use Rattle.bg_lists.specs.Lists.{Mem, here, there}
use Rattle.bg_lists.specs.Orders.{Ascending, asc_nil, asc_cons}
use Rattle.bg_lists.proofs.Ascents.{Ascending-append, Ascending-filter, Ascending-from_sorted, same_ascending, sorted_from_Ascending}
use Rattle.bg_lists.proofs.Comparisons.{Less-not_back, lt-from_nat_cmp, nat_cmp-lt}
use Rattle.bg_lists.proofs.Groups.{filter_all, filter_none}
use Rattle.bg_lists.proofs.Members.{Mem-append_cases, Mem-append_left, Mem-append_right, Mem-cons_cases, Mem-filter, Mem-unfilter}
use Rattle.bg_lists.proofs.Places.{At-below, At-from_Mem, get_or-At}
use Rattle.bg_rules.specs.Instantiation.{is_among}
use Rattle.bg_rules.proofs.Upwards.{among_cases, is_among-member, is_among-none, member_from_is_among, not_among}
use Rattle.bg_match.proofs.CandidateLaws.{rises}
use Rattle.bg_index.specs.Spans.{above, below, spliced, standing}

abbrev Up : List ℕ → Type 0
Up xs = Ascending (λ x y. nat_cmp x y ≡ Less) xs

-- ---- where a test begins to fail, the list has two parts

module _ {X : Type 0} (test : X → Bool) (numbers : List X) (at : ℕ) (inside : at ≤ length numbers)
    (point : IsPartitionPoint (λ y. test y ≡ true) (λ y. test y ≡ false) numbers at) where
  passes : (x : X) → Mem x (take at numbers) → test x ≡ true
  passes x m =
      let w = At-from_Mem m in
      let front : w.0 < at = omega (arith, At-below w.1, length-take-le at numbers inside) in
      let e : get_or numbers w.0 x ≡ x = sym (get_or-take at numbers w.0 x front) ∙ get_or-At (take at numbers) x w.1 in
      subst (λ z. test z ≡ true) e (point.0 w.0 x (omega arith) front)

  fails : (x : X) → Mem x (drop at numbers) → test x ≡ false
  fails x m =
      let w = At-from_Mem m in
      let within : at + w.0 < length numbers = omega (arith, At-below w.1, length-drop at numbers) in
      let e : get_or numbers (at + w.0) x ≡ x = sym (get_or-drop at numbers w.0 x) ∙ get_or-At (drop at numbers) x w.1 in
      subst (λ z. test z ≡ false) e (point.1 (at + w.0) x (omega arith) within)

  pub front_is : take at numbers ≡ filter test numbers
  front_is =
      sym (ap (filter test) (sym (take-append-drop at numbers)) ∙ filter-append test (take at numbers) (drop at numbers)
      ∙ ap (λ xs. xs ++ filter test (drop at numbers)) (filter_all test (take at numbers) passes)
      ∙ ap (λ xs. take at numbers ++ xs) (filter_none test (drop at numbers) fails) ∙ append-nil (take at numbers))

  pub back_is : (other : X → Bool) → ((x : X) → other x ≡ not (test x)) → drop at numbers ≡ filter other numbers
  back_is other turned =
      sym (ap (filter other) (sym (take-append-drop at numbers)) ∙ filter-append other (take at numbers) (drop at numbers)
      ∙ ap (λ xs. xs ++ filter other (drop at numbers)) (filter_none other (take at numbers) (λ x m. turned x ∙ ap not (passes x m)))
      ∙ filter_all other (drop at numbers) (λ x m. turned x ∙ ap not (fails x m)))

pub below_found : (numbers : List ℕ) (number count : ℕ) → IsStrictlySortedBy nat_cmp numbers → count ≤ length numbers
    → (IsPartitionedBy (λ y. ltb y number) numbers → IsPartitionPoint (λ y. ltb y number ≡ true) (λ y. ltb y number ≡ false) numbers count)
    → take count numbers ≡ below number numbers
below_found numbers number count up inside point =
    front_is (λ y. ltb y number) numbers count inside (point (IsPartitionedBy-ltb (λ n. n) numbers number (rises numbers up)))

turned_leb : (number x : ℕ) → nat_lt number x ≡ not (leb x number)
turned_leb number x = grind (arith, nat_tests)

pub above_found : (numbers : List ℕ) (number start : ℕ) → IsStrictlySortedBy nat_cmp numbers → start ≤ length numbers
    → (IsPartitionedBy (λ y. leb y number) numbers → IsPartitionPoint (λ y. leb y number ≡ true) (λ y. leb y number ≡ false) numbers start)
    → take (length numbers - start) (drop start numbers) ≡ above number numbers
above_found numbers number start up inside point =
    take_all (length numbers - start) (drop start numbers) (omega (arith, length-drop start numbers))
    ∙ back_is (λ y. leb y number) numbers start inside (point (IsPartitionedBy-leb (λ n. n) numbers number (rises numbers up)))
    (λ y. nat_lt number y) (turned_leb number)

pub above_ascends : (number : ℕ) (numbers rest : List ℕ) → IsStrictlySortedBy nat_cmp numbers → rest ≡ above number numbers → IsStrictlySortedBy nat_cmp rest
above_ascends number numbers rest up is =
    subst (IsStrictlySortedBy nat_cmp) (sym is)
    (sorted_from_Ascending {cmp = nat_cmp} (above number numbers) (Ascending-filter (λ other. nat_lt number other) numbers (Ascending-from_sorted numbers up)))

-- ---- cut by cut

pub cut_more : (stand cuts : List ℕ) (i cut : ℕ) (made rest whole more : List ℕ) → i < length cuts → cut ≡ get_or cuts i 0
    → made ++ spliced stand (drop i cuts) rest ≡ whole → more ≡ made ++ below cut rest ++ standing stand cut
    → more ++ spliced stand (drop (i + 1) cuts) (above cut rest) ≡ whole
unfolding spliced
cut_more stand cuts i cut made rest whole more inside is so_far longer =
    let left = spliced stand (drop (i + 1) cuts) (above cut rest) in
    let front = below cut rest in
    let middle = standing stand cut in
    let next : spliced stand (drop i cuts) rest ≡ front ++ (middle ++ left)
    = at_drop_more (λ cs. spliced stand cs rest) cuts i 0 inside
    ∙ ap (λ n. spliced stand (n ∷ drop (i + 1) cuts) rest) (sym is) in
    ap (λ xs. xs ++ left) longer ∙ append_assoc (made ++ front) middle left ∙ append_assoc made front (middle ++ left)
    ∙ ap (λ xs. made ++ xs) (sym next) ∙ so_far

pub cuts_done : (stand cuts : List ℕ) (i : ℕ) (made rest whole more : List ℕ) → length cuts ≤ i
    → made ++ spliced stand (drop i cuts) rest ≡ whole → more ≡ made ++ rest → more ≡ whole
unfolding spliced
cuts_done stand cuts i made rest whole more past so_far longer =
    let none : spliced stand (drop i cuts) rest ≡ rest = at_drop_all (λ cs. spliced stand cs rest) cuts i past in
    longer ∙ ap (λ xs. made ++ xs) (sym none) ∙ so_far

-- ---- which numbers are left, and in what order

module _ (stand : List ℕ) where
  standing_is : {x : ℕ} (cut : ℕ) → Mem x (standing stand cut) → (cut ≡ x) × (is_among x stand ≡ true)
  standing_is {x} cut m =
      cond_both (is_among cut stand) (cut ∷ []) [] (λ zs. Mem x zs → (cut ≡ x) × (is_among x stand ≡ true))
      (λ e k. elim (Mem-cons_cases k) [ inl same ↦ (same, ap (λ n. is_among n stand) (sym same) ∙ e) | inr n ↦ elim n [ ] ])
      (λ _ k. elim k [ ]) m

  stands : {x : ℕ} (cut : ℕ) → cut ≡ x → is_among x stand ≡ true → Mem x (standing stand cut)
  stands {x} cut same e =
      cond_both (is_among cut stand) (cut ∷ []) [] (λ zs. Mem x zs) (λ _. here same)
      (λ fail. absurd (false≢true (sym fail ∙ ap (λ n. is_among n stand) same ∙ e)))

  standing_up : (cut : ℕ) → Up (standing stand cut)
  standing_up cut =
      cond_both (is_among cut stand) (cut ∷ []) [] (λ zs. Up zs) (λ _. asc_cons (λ y m. elim m [ ]) asc_nil) (λ _. asc_nil)

  -- what is left is one of the numbers and no cut, or a cut that is to stand
  pub spliced_from : {x : ℕ} (cuts numbers : List ℕ) → Up cuts → Mem x (spliced stand cuts numbers)
      → (Mem x numbers × (Mem x cuts → ⊥)) ⊎ (Mem x cuts × (is_among x stand ≡ true))
  unfolding spliced
  spliced_from [] numbers up m = inl (m, λ k. elim k [ ])
  spliced_from {x} (cut ∷ cuts) numbers (asc_cons low rest) m =
      let left = spliced stand cuts (above cut numbers) in
      elim (Mem-append_cases (below cut numbers) (standing stand cut ++ left) m) [
        | inl k ↦ (let w = Mem-unfilter (λ n. nat_lt n cut) numbers k in
            let less = ltb-true x cut w.1 in
            inl (
              w.0,
              λ l. elim (Mem-cons_cases l) [
                | inl same ↦ absurd (omega (arith, less, same))
                | inr n ↦ (let more = lt-from_nat_cmp cut x (low x n) in absurd (omega (arith, less, more)))
              ],
            ))
        | inr k ↦ elim (Mem-append_cases (standing stand cut) left k) [
          | inl l ↦ (let w = standing_is cut l in inr (here w.0, w.1))
          | inr l ↦ elim (spliced_from cuts (above cut numbers) rest l) [
            | inl v ↦ (let w = Mem-unfilter (λ n. nat_lt cut n) numbers v.0 in
                let more = ltb-true cut x w.1 in
                inl (w.0, λ n. elim (Mem-cons_cases n) [ inl same ↦ absurd (omega (arith, more, same)) | inr o ↦ v.1 o ]))
            | inr v ↦ inr (there v.0, v.1)
          ]
        ]
      ]

  pub spliced_stays : {x : ℕ} (cuts numbers : List ℕ) → Mem x numbers → (Mem x cuts → ⊥) → Mem x (spliced stand cuts numbers)
  unfolding spliced
  spliced_stays [] numbers m none = m
  spliced_stays {x} (cut ∷ cuts) numbers m none =
      let left = spliced stand cuts (above cut numbers) in
      elim (cases_order x cut) [
        | inl same ↦ absurd (none (here (sym same)))
        | inr (inl less) ↦ Mem-append_left (below cut numbers) (standing stand cut ++ left)
            (Mem-filter (λ n. nat_lt n cut) numbers m (lt-ltb x cut less))
        | inr (inr more) ↦ Mem-append_right (below cut numbers) (standing stand cut ++ left)
            (Mem-append_right (standing stand cut) left
            (spliced_stays cuts (above cut numbers) (Mem-filter (λ n. nat_lt cut n) numbers m (lt-ltb cut x more)) (λ k. none (there k))))
      ]

  pub spliced_stands : {x : ℕ} (cuts numbers : List ℕ) → Mem x cuts → is_among x stand ≡ true → Mem x (spliced stand cuts numbers)
  unfolding spliced
  spliced_stands [] numbers m e = elim m [ ]
  spliced_stands (cut ∷ cuts) numbers (here same) e =
      Mem-append_right (below cut numbers) (standing stand cut ++ spliced stand cuts (above cut numbers))
      (Mem-append_left (standing stand cut) (spliced stand cuts (above cut numbers)) (stands cut same e))
  spliced_stands (cut ∷ cuts) numbers (there m) e =
      Mem-append_right (below cut numbers) (standing stand cut ++ spliced stand cuts (above cut numbers))
      (Mem-append_right (standing stand cut) (spliced stand cuts (above cut numbers)) (spliced_stands cuts (above cut numbers) m e))

  behind_cut : (cut : ℕ) (cuts numbers : List ℕ) → ((y : ℕ) → Mem y cuts → nat_cmp cut y ≡ Less) → Up cuts
      → (y : ℕ) → Mem y (spliced stand cuts (above cut numbers)) → cut < y
  behind_cut cut cuts numbers low rest y m =
      elim (spliced_from cuts (above cut numbers) rest m) [
        | inl v ↦ ltb-true cut y (Mem-unfilter (λ n. nat_lt cut n) numbers v.0).1
        | inr v ↦ lt-from_nat_cmp cut y (low y v.0)
      ]

  spliced_up : (cuts numbers : List ℕ) → Up cuts → Up numbers → Up (spliced stand cuts numbers)
  unfolding spliced
  spliced_up [] numbers up vp = vp
  spliced_up (cut ∷ cuts) numbers (asc_cons low rest) vp =
      let left = spliced stand cuts (above cut numbers) in
      Ascending-append (below cut numbers) (standing stand cut ++ left) (Ascending-filter (λ n. nat_lt n cut) numbers vp)
      (Ascending-append (standing stand cut) left (standing_up cut)
      (spliced_up cuts (above cut numbers) rest (Ascending-filter (λ n. nat_lt cut n) numbers vp))
      (λ x y m n. let same = (standing_is cut m).0 in
      let more = behind_cut cut cuts numbers low rest y n in nat_cmp-lt x y (omega (arith, same, more))))
      (λ x y m n. let less = ltb-true x cut (Mem-unfilter (λ n. nat_lt n cut) numbers m).1 in
      elim (Mem-append_cases (standing stand cut) left n) [
        | inl k ↦ (let same = (standing_is cut k).0 in nat_cmp-lt x y (omega (arith, less, same)))
        | inr k ↦ (let more = behind_cut cut cuts numbers low rest y k in nat_cmp-lt x y (omega (arith, less, more)))
      ])

  pub spliced_ascends : (cuts numbers made : List ℕ) → IsStrictlySortedBy nat_cmp numbers → IsStrictlySortedBy nat_cmp cuts → made ≡ spliced stand cuts numbers
      → IsStrictlySortedBy nat_cmp made
  spliced_ascends cuts numbers made up vp is =
      subst (IsStrictlySortedBy nat_cmp) (sym is)
      (sorted_from_Ascending {cmp = nat_cmp} (spliced stand cuts numbers)
      (spliced_up cuts numbers (Ascending-from_sorted cuts vp) (Ascending-from_sorted numbers up)))

-- ---- none stands, all stand, or those that arrive

pub none_ascends : IsStrictlySortedBy nat_cmp []
none_ascends = sorted_from_Ascending {cmp = nat_cmp} [] asc_nil

pub without_is : (others numbers : List ℕ) → IsStrictlySortedBy nat_cmp numbers → IsStrictlySortedBy nat_cmp others
    → spliced [] others numbers ≡ filter (λ number. not (is_among number others)) numbers
without_is others numbers up vp =
    let keep : ℕ → Bool = λ number. not (is_among number others) in
    let cuts_up = Ascending-from_sorted others vp in
    let numbers_up = Ascending-from_sorted numbers up in
    same_ascending (Less-not_back nat_cmp_total) (spliced [] others numbers) (filter keep numbers)
    (spliced_up [] others numbers cuts_up numbers_up) (Ascending-filter keep numbers numbers_up)
    (λ x m. elim (spliced_from [] others numbers cuts_up m) [
      | inl v ↦ Mem-filter keep numbers v.0 (not_from_false (is_among x others) (is_among-none others x v.1))
      | inr v ↦ absurd (false≢true v.1)
    ])
    (λ x m. let w = Mem-unfilter keep numbers m in spliced_stays [] others numbers w.0 (not_among others (not-true (is_among x others) w.1)))

pub joined_same : (numbers arrivals made : List ℕ) → IsStrictlySortedBy nat_cmp arrivals → made ≡ spliced arrivals arrivals numbers
    → (x : ℕ) → Mem x made ↔ Mem x (numbers ++ arrivals)
joined_same numbers arrivals made up is x = (
  λ m. elim (spliced_from arrivals arrivals numbers (Ascending-from_sorted arrivals up) (subst (λ xs. Mem x xs) is m)) [
    | inl v ↦ Mem-append_left numbers arrivals v.0
    | inr v ↦ Mem-append_right numbers arrivals v.0
  ],
  λ m. subst (λ xs. Mem x xs) (sym is) (elim (Mem-append_cases numbers arrivals m) [
    | inl k ↦ elim (among_cases arrivals x) [
      | inl l ↦ spliced_stands arrivals arrivals numbers l (is_among-member arrivals l)
      | inr none ↦ spliced_stays arrivals arrivals numbers k none
    ]
    | inr k ↦ spliced_stands arrivals arrivals numbers k (is_among-member arrivals k)
  ]),
)

pub changed_same : (numbers gone arrivals cuts made : List ℕ) → IsStrictlySortedBy nat_cmp cuts → ((x : ℕ) → Mem x cuts ↔ Mem x (gone ++ arrivals))
    → made ≡ spliced arrivals cuts numbers → (x : ℕ) → Mem x made ↔ Mem x (filter (λ other. not (is_among other gone)) numbers ++ arrivals)
changed_same numbers gone arrivals cuts made up same is x = (
  λ m. elim (spliced_from arrivals cuts numbers (Ascending-from_sorted cuts up) (subst (λ xs. Mem x xs) is m)) [
    | inl v ↦ Mem-append_left (filter (λ other. not (is_among other gone)) numbers) arrivals
        (Mem-filter (λ other. not (is_among other gone)) numbers v.0
        (not_from_false (is_among x gone) (is_among-none gone x (λ k. v.1 ((same x).1 (Mem-append_left gone arrivals k))))))
    | inr v ↦ Mem-append_right (filter (λ other. not (is_among other gone)) numbers) arrivals (member_from_is_among arrivals x v.1)
  ],
  λ m. subst (λ xs. Mem x xs) (sym is) (elim (Mem-append_cases (filter (λ other. not (is_among other gone)) numbers) arrivals m) [
    | inl k ↦ (let w = Mem-unfilter (λ other. not (is_among other gone)) numbers k in
        elim (among_cases arrivals x) [
          | inl l ↦ spliced_stands arrivals cuts numbers ((same x).1 (Mem-append_right gone arrivals l)) (is_among-member arrivals l)
          | inr none ↦ spliced_stays arrivals cuts numbers w.0
              (λ l. elim (Mem-append_cases gone arrivals ((same x).0 l)) [
                | inl g ↦ not_among gone (not-true (is_among x gone) w.1) g
                | inr a ↦ none a
              ])
        ])
    | inr k ↦ spliced_stands arrivals cuts numbers ((same x).1 (Mem-append_right gone arrivals k)) (is_among-member arrivals k)
  ]),
)
