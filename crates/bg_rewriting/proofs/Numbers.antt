-- The numbers of the nodes after a reaction: those before without those that are dropped, then the new ones in a row.
use Rattle.std.proofs.Common.{◌≡◌, ℕ, suc, ◌+◌, ◌-◌, ◌<◌, ◌≤◌, ◌==◌, ◌↔◌, not, Bool, if◌then◌else◌, Less, List, [], ◌∷◌, ◌++◌, length, filter, take, get_or, nat_cmp, refl, sym, ap, subst, ◌∙◌, ◌⊎◌, inl, inr, arith}
use Rattle.std.specs.List.{position_or_len}
use Rattle.std.specs.List.Sorted.{IsStrictlySortedBy}
use Rattle.std.proofs.lemmas.Bool.{cases_Bool, cases_lt, cond-true, cond-false, not_from_false, not-true}
use Rattle.std.proofs.lemmas.Cmp.{nat_cmp_total}
use Rattle.std.proofs.lemmas.List.{length-append, length-map}
use Rattle.bg_lists.specs.Lists.{Mem, here, there, At, at_here, at_there}
use Rattle.bg_lists.specs.Orders.{Ascending}
use Rattle.bg_lists.proofs.Comparisons.{Less-not_itself, nat_cmp-lt}
use Rattle.bg_lists.proofs.Members.{Mem-same, Mem-filter, Mem-unfilter, Mem-append_left, Mem-append_right, Mem-append_cases}
use Rattle.bg_lists.proofs.Places.{At-same, At-total, Mem-from_At, At-slice_get, At-get_or}
use Rattle.bg_lists.proofs.Ascents.{Ascending-from_sorted, Ascending-filter, Ascending-append, Ascending-map, sorted_from_Ascending, one_place}
use Rattle.bg_lists.proofs.Words.{All-member}
use Rattle.bg_base.specs.declared.names.Place.TheVariants.{Region}
use Rattle.bg_base.specs.declared.big.NodeRow.{NodeRow}
use Rattle.bg_base.specs.declared.big.Big.{Big}
use Rattle.bg_base.specs.Elementary.{counted}
use Rattle.bg_base.specs.Translation.{node_numbers}
use Rattle.bg_base.proofs.Counted.{Mem-counted, length-counted, slice_get-counted, counted_ascends}
use Rattle.bg_algebra.proofs.CompositionLaws.{same_edges}
use Rattle.bg_rules.specs.Solid.{IsPattern}
use Rattle.bg_rules.specs.Instantiation.{is_among}
use Rattle.bg_rules.specs.Reaction.{HostState, IsNumbered}
use Rattle.bg_rules.proofs.Copies.{At-position}
use Rattle.bg_rules.proofs.Glued.{Glued}
use Rattle.bg_rules.proofs.Patterns.{number_mem, number_row, site_node}
use Rattle.bg_rules.proofs.Upwards.{is_among-member, is_among-none, member_from_is_among, not_among}
use Rattle.bg_rules.specs.Rules.{RuleParts, IsRule}
use Rattle.bg_rewriting.specs.Boundaries.{Boundary, IsBoundary}
use Rattle.bg_rewriting.specs.Rewriting.{late_count, number_copied, row_made, row_copied, is_made, is_copied, IsRewritten}
use Rattle.bg_rewriting.specs.Touching.{IsDropped}
use Rattle.bg_rewriting.proofs.Counts.{twice_at, twice_needed}
use Rattle.bg_rewriting.proofs.Classes.{dropped_or_left, not_both, number_late}
use Rattle.bg_rewriting.proofs.Touched.{origin, left_there, dropped_host}

-- ---- each new number of a late copy is given

pub record LateAt (parts : List (List ℕ)) (earlier entries : List ℕ) (count : ℕ) : Type 0 where
  pub at : ℕ
  pub site : ℕ
  pub rank : ℕ
  pub there_asked : At site at entries
  pub again : Mem site earlier ⊎ Mem site (take at entries)
  pub rank_below : rank < length (get_or parts site [])
  pub same : count ≡ late_count parts earlier (take at entries) + rank

late_none : (parts : List (List ℕ)) (earlier : List ℕ) → late_count parts earlier [] ≡ 0
unfolding late_count
late_none parts earlier = refl

late_cons : (parts : List (List ℕ)) (earlier : List ℕ) (site : ℕ) (entries : List ℕ)
    → late_count parts earlier (site ∷ entries)
    ≡ (if is_among site earlier then length (get_or parts site []) else 0) + late_count parts (site ∷ earlier) entries
unfolding late_count
late_cons parts earlier site entries = refl

late_onto : (parts : List (List ℕ)) (earlier entries : List ℕ) (count : ℕ) → count < late_count parts earlier entries → LateAt parts earlier entries count
late_onto parts earlier [] count less = let none = late_none parts earlier in absurd (omega (arith, less, none))
late_onto parts earlier (site ∷ entries) count less =
    let size : ℕ = if is_among site earlier then length (get_or parts site []) else 0 in
    let whole = late_cons parts earlier site entries in
    elim (cases_lt count (if is_among site earlier then length (get_or parts site []) else 0)) [
      | inl small ↦ elim (cases_Bool (is_among site earlier)) [
        | inl late ↦ (let none = late_none parts earlier in record {
          at = 0;
          site = site;
          rank = count;
          there_asked = at_here refl;
          again = inl (member_from_is_among earlier site late);
          rank_below = subst (λ n. count < n) (cond-true (is_among site earlier) (length (get_or parts site [])) 0 late) small;
          same = omega (arith, none);
        })
        | inr first ↦ (let nothing : count < 0 = subst (λ n. count < n) (cond-false (is_among site earlier) (length (get_or parts site [])) 0 first) small in
            absurd (omega (arith, nothing)))
      ]
      | inr large ↦ (let w = late_onto parts (site ∷ earlier) entries (count - (if is_among site earlier then length (get_or parts site []) else 0)) (omega (arith, large, less, whole)) in
          let part = late_cons parts earlier site (take w.at entries) in
          let same = w.same in record {
            at = suc w.at;
            site = w.site;
            rank = w.rank;
            there_asked = at_there w.there_asked;
            again = elim w.again [ inl m ↦ before w.at m | inr n ↦ inr (there n) ];
            rank_below = w.rank_below;
            same = omega (arith, large, part, same);
          })
    ]
  where
    before : {other : ℕ} (at : ℕ) → Mem other (site ∷ earlier) → Mem other earlier ⊎ Mem other (site ∷ take at entries)
    before at (here e) = inr (here e)
    before at (there m) = inl m

-- ---- lists of numbers

counted_mem : (first count n : ℕ) → first ≤ n → n < first + count → Mem n (counted first count)
counted_mem first count n low high =
    let less : n - first < count = omega (arith, low, high) in
    let same : first + (n - first) ≡ n = omega (arith, low) in
    Mem-same same (Mem-from_At (At-slice_get (n - first) (counted first count) (slice_get-counted first count (n - first) less)))

ascending_position : {x i : ℕ} (xs : List ℕ) → IsStrictlySortedBy nat_cmp xs → At x i xs → position_or_len (λ other. other == x) xs ≡ i
ascending_position xs up a =
    one_place xs (Less-not_itself nat_cmp_total) (Ascending-from_sorted xs up) (At-position xs (Mem-from_At a)) a

-- those that are none of the others, and those that are
length_apart : (test : ℕ → Bool) (xs : List ℕ) → length (filter (λ x. not (test x)) xs) + length (filter test xs) ≡ length xs
length_apart test [] = refl
length_apart test (x ∷ xs) =
    let rest = length_apart test xs in
    elim (cases_Bool (test x)) [
      | inl e ↦ (let one = ap (λ (ys : List ℕ). length ys) (cond-false (not (test x)) (x ∷ filter (λ y. not (test y)) xs) (filter (λ y. not (test y)) xs) (ap not e)) in
          let two = ap (λ (ys : List ℕ). length ys) (cond-true (test x) (x ∷ filter test xs) (filter test xs) e) in omega (arith, rest, one, two))
      | inr e ↦ (let one = ap (λ (ys : List ℕ). length ys) (cond-true (not (test x)) (x ∷ filter (λ y. not (test y)) xs) (filter (λ y. not (test y)) xs) (ap not e)) in
          let two = ap (λ (ys : List ℕ). length ys) (cond-false (test x) (x ∷ filter test xs) (filter test xs) e) in omega (arith, rest, one, two))
    ]

pub length_without : (xs ys : List ℕ) → IsStrictlySortedBy nat_cmp xs → IsStrictlySortedBy nat_cmp ys → ((y : ℕ) → Mem y ys → Mem y xs)
    → length (filter (λ x. not (is_among x ys)) xs) + length ys ≡ length xs
length_without xs ys up vp inside =
    let same : filter (λ x. is_among x ys) xs ≡ ys =
    same_edges (filter (λ x. is_among x ys) xs) ys
    (sorted_from_Ascending {cmp = nat_cmp} (filter (λ x. is_among x ys) xs) (Ascending-filter (λ x. is_among x ys) xs (Ascending-from_sorted xs up))) vp
    (λ y m. member_from_is_among ys y (Mem-unfilter (λ x. is_among x ys) xs m).1)
    (λ y m. Mem-filter (λ x. is_among x ys) xs (inside y m) (is_among-member ys m)) in
    let whole = length_apart (λ x. is_among x ys) xs in
    let long = ap (λ (zs : List ℕ). length zs) same in
    omega (arith, whole, long)

module _ (host : HostState) (rule : RuleParts) (nodes : List ℕ) (numbered : IsNumbered host) (is_rule : IsRule rule)
    (boundary : Boundary) (is_boundary : IsBoundary host.big rule nodes boundary)
    (context : Big) (edges : List ℕ) (parameter : Big) (glued : Glued host.big rule.redex nodes context edges parameter)
    (after : HostState) (after_numbered : IsNumbered after) (rewritten : IsRewritten host rule nodes boundary after) where
  abbrev new_count : ℕ
  new_count = length rule.reactum.nodes + late_count boundary.parts [] rule.map

  abbrev is : IsPattern rule.redex
  is = is_rule.sides.is_pattern

  -- each number of the reactum, and of the late copies, is that of a row after
  made_number : (node : ℕ) → node < length rule.reactum.nodes → Mem (host.next_node + node) (node_numbers after.big.nodes)
  made_number node less =
      let m : Mem node (node_numbers rule.reactum.nodes) =
      subst (λ ns. Mem node ns) (sym is_rule.reactum_numbered.nodes_counted) (counted_mem 0 (length rule.reactum.nodes) node (omega arith) (omega (arith, less))) in
      let w = number_row rule.reactum.nodes m in
      let n = number_mem (rewritten.rows_in (row_made host rule boundary w.0) (is_made w.1 refl)) in
      Mem-same (ap (λ k. host.next_node + k) w.2) n

  late_number : (count : ℕ) → count < late_count boundary.parts [] rule.map
      → Mem (host.next_node + length rule.reactum.nodes + count) (node_numbers after.big.nodes)
  late_number count less =
      let late = late_onto boundary.parts [] rule.map count less in
      let again : Mem late.site (take late.at rule.map) = elim late.again [ inl k ↦ elim k [ ] | inr k ↦ k ] in
      let inside = All-member (λ entry. entry < length rule.redex.sites) rule.map is_rule.sides.fits.entries_there (Mem-from_At late.there_asked) in
      let many = is_boundary.parts_many in
      let s = At-get_or rule.redex.sites late.site (Region late.site) inside in
      let t = site_node rule.redex is (Mem-from_At s) in
      let site = At-same t.1 s in
      let p = is_boundary.parts_are late.site t.0 (get_or boundary.parts late.site []) site (At-get_or boundary.parts late.site [] (omega (arith, inside, many)))
      (twice_needed (twice_at late.at rule.map late.there_asked again)) in
      let n = At-total (get_or boundary.parts late.site []) late.rank late.rank_below in
      let b = p.below n.0 (Mem-from_At n.1) in
      let position = ascending_position (get_or boundary.parts late.site []) p.ascends (At-same (sym b.2) n.1) in
      let number = number_late boundary.parts rule.map (host.next_node + length rule.reactum.nodes) late.at late.site b.0.id (is_among-member (take late.at rule.map) again) in
      let count_is = late.same in
      let whole : number_copied boundary.parts rule.map (host.next_node + length rule.reactum.nodes) late.at late.site b.0.id ≡ host.next_node + length rule.reactum.nodes + count =
      omega (arith, number, position, count_is) in
      Mem-same whole (number_mem (rewritten.rows_in (row_copied host rule nodes boundary late.at late.site b.0) (is_copied late.there_asked site b.1 refl)))

  module _ (gone : List ℕ) (gone_are : (node : ℕ) → Mem node gone ↔ IsDropped host.big rule nodes node) where
    abbrev kept : List ℕ
    kept = filter (λ node. not (is_among node gone)) (node_numbers host.big.nodes)

    kept_up : Ascending (λ x y. nat_cmp x y ≡ Less) kept
    kept_up =
        Ascending-filter (λ node. not (is_among node gone)) (node_numbers host.big.nodes)
        (Ascending-map {Under = λ x y. nat_cmp x y ≡ Less} (λ (row : NodeRow). row.id) host.big.nodes (λ x y less. less)
        (Ascending-from_sorted host.big.nodes numbered.ground.valid.nodes_ascend))

    kept_below : (node : ℕ) → Mem node kept → node < host.next_node
    kept_below node m =
        let w = number_row host.big.nodes (Mem-unfilter (λ node. not (is_among node gone)) (node_numbers host.big.nodes) m).0 in
        subst (λ n. n < host.next_node) w.2 (All-member (λ (r : NodeRow). r.id < host.next_node) host.big.nodes numbered.nodes_below w.1)

    -- the numbers after
    pub numbers_after : node_numbers after.big.nodes ≡ kept ++ counted host.next_node new_count
    numbers_after =
        same_edges (node_numbers after.big.nodes) (kept ++ counted host.next_node new_count)
        (sorted_from_Ascending {cmp = nat_cmp} (node_numbers after.big.nodes)
        (Ascending-map {Under = λ x y. nat_cmp x y ≡ Less} (λ (row : NodeRow). row.id) after.big.nodes (λ x y less. less)
        (Ascending-from_sorted after.big.nodes rewritten.nodes_ascend)))
        (sorted_from_Ascending {cmp = nat_cmp} (kept ++ counted host.next_node new_count)
        (Ascending-append kept (counted host.next_node new_count) kept_up (counted_ascends host.next_node new_count)
        (λ x y m n. let less = kept_below x m in let more = (Mem-counted host.next_node new_count y n).0 in nat_cmp-lt x y (omega (arith, less, more)))))
        into back
      where
        into : (node : ℕ) → Mem node (node_numbers after.big.nodes) → Mem node (kept ++ counted host.next_node new_count)
        into node m =
            let w = number_row after.big.nodes m in
            elim (origin host rule nodes numbered is_rule boundary is_boundary context edges parameter glued after after_numbered.ground rewritten w.1) [
              | inl new ↦ (let low = new.0 in
                  let high = All-member (λ (r : NodeRow). r.id < after.next_node) after.big.nodes after_numbered.nodes_below w.1 in
                  let next = rewritten.next_node in
                  let number = w.2 in
                  Mem-append_right kept (counted host.next_node new_count)
                  (counted_mem host.next_node new_count node (omega (arith, low, number)) (omega (arith, high, next, number))))
              | inr old ↦ (let none : Mem node gone → ⊥ =
                  λ k. not_both is numbered.ground glued old.of_host
                  (subst (IsDropped host.big rule nodes) (sym (old.number ∙ w.2)) ((gone_are node).0 k)) old.left in
                  Mem-append_left kept (counted host.next_node new_count)
                  (Mem-filter (λ node. not (is_among node gone)) (node_numbers host.big.nodes) (Mem-same (old.number ∙ w.2) (number_mem old.of_host))
                  (not_from_false (is_among node gone) (is_among-none gone node none))))
            ]

        back : (node : ℕ) → Mem node (kept ++ counted host.next_node new_count) → Mem node (node_numbers after.big.nodes)
        back node m =
            elim (Mem-append_cases kept (counted host.next_node new_count) m) [
              | inl k ↦ (let v = Mem-unfilter (λ node. not (is_among node gone)) (node_numbers host.big.nodes) k in
                  let w = number_row host.big.nodes v.0 in
                  elim (dropped_or_left is numbered.ground glued w.1) [
                    | inl dropped ↦ absurd (not_among gone (not-true (is_among node gone) v.1)
                        ((gone_are node).1 (subst (IsDropped host.big rule nodes) w.2 dropped)))
                    | inr left ↦ (let u = left_there host rule nodes numbered is_rule boundary is_boundary context edges parameter glued after after_numbered.ground rewritten left in
                        Mem-same (u.2 ∙ w.2) (number_mem u.1))
                  ])
              | inr k ↦ (let range = Mem-counted host.next_node new_count node k in
                  let low = range.0 in
                  let high = range.1 in
                  elim (cases_lt node (host.next_node + length rule.reactum.nodes)) [
                    | inl less ↦ (let same : host.next_node + (node - host.next_node) ≡ node = omega (arith, low) in
                        Mem-same same (made_number (node - host.next_node) (omega (arith, low, less))))
                    | inr more ↦ (let same : host.next_node + length rule.reactum.nodes + (node - (host.next_node + length rule.reactum.nodes)) ≡ node = omega (arith, more) in
                        Mem-same same (late_number (node - (host.next_node + length rule.reactum.nodes)) (omega (arith, more, high))))
                  ])
            ]

    -- how many there are
    pub nodes_counted : IsStrictlySortedBy nat_cmp gone → length after.big.nodes + length gone ≡ length host.big.nodes + new_count
    nodes_counted gone_up =
        let inside : (node : ℕ) → Mem node gone → Mem node (node_numbers host.big.nodes) = λ node m.
        let w = dropped_host host rule nodes numbered is_rule boundary is_boundary context edges parameter glued after after_numbered.ground rewritten ((gone_are node).0 m) in
        Mem-same w.2 (number_mem w.1) in
        let up = sorted_from_Ascending {cmp = nat_cmp} (node_numbers host.big.nodes)
        (Ascending-map {Under = λ x y. nat_cmp x y ≡ Less} (λ (row : NodeRow). row.id) host.big.nodes (λ x y less. less)
        (Ascending-from_sorted host.big.nodes numbered.ground.valid.nodes_ascend)) in
        let without = length_without (node_numbers host.big.nodes) gone up gone_up inside in
        let long = ap (λ (ns : List ℕ). length ns) numbers_after ∙ length-append kept (counted host.next_node new_count) in
        let news = length-counted host.next_node new_count in
        let one = length-map after.big.nodes (λ (row : NodeRow). row.id) in
        let two = length-map host.big.nodes (λ (row : NodeRow). row.id) in
        omega (arith, without, long, news, one, two)
