-- One step of the walk, and its end.
use Rattle.std.proofs.Common.{◌≡◌, ℕ, ◌+◌, ◌<◌, ◌≤◌, ◌==◌, false, List, ◌++◌, length, filter, not, nat_cmp, refl, sym, ap, subst, ◌∙◌, ◌⊎◌, inl, inr, arith, eqb, eqb-true, eq-eqb}
use Rattle.std.specs.List.{IsDistinct}
use Rattle.std.specs.List.Sorted.{IsStrictlySortedBy, IsPermutation, IsSorted}
use Rattle.std.proofs.lemmas.Map.Steps.{length-le_from_distinct_below}
use Rattle.std.specs.Ordering.{eq_by_cmp}
use Rattle.std.proofs.lemmas.Bool.{cases_lt, false_from_ne_true, not-true, not_from_false}
use Rattle.std.proofs.lemmas.List.{length-append, map-id}
use Rattle.std.proofs.lemmas.Cmp.{nat_cmp_total}
use Rattle.bg_lists.specs.Lists.{Mem, At, sort}
use Rattle.bg_lists.specs.Orders.{before}
use Rattle.bg_lists.proofs.Sorts.{sorted_by}
use Rattle.bg_lists.proofs.Comparisons.{eqb-nat_cmp}
use Rattle.bg_lists.proofs.Members.{Mem-same, Mem-filter, Mem-unfilter, Mem-append_left, Mem-append_right, Mem-append_cases}
use Rattle.bg_lists.proofs.Places.{At-same, At-one, At-below, At-append_left, At-from_Mem, Mem-from_At, At-total}
use Rattle.bg_lists.proofs.Ascents.{Ascending-from_sorted, Ascending-filter, sorted_from_Ascending}
use Rattle.bg_lists.proofs.Sorting.{IsDistinct-append, IsDistinct-from_Ascending, IsDistinct-map_on, Ascending-sort}
use Rattle.bg_lists.proofs.Words.{All-member, member_from_list_any, Mem-permutation, Mem-unpermutation}
use Rattle.bg_base.specs.declared.names.Place.{Place}
use Rattle.bg_base.specs.declared.names.Place.TheVariants.{Node}
use Rattle.bg_base.specs.declared.big.NodeRow.{NodeRow}
use Rattle.bg_base.specs.declared.big.Big.{Big}
use Rattle.bg_base.specs.Bigraph.{IsValid}
use Rattle.bg_place.specs.Places.{places_of, children_of}
use Rattle.bg_rules.specs.Hosts.{IsHost}
use Rattle.bg_rules.specs.Reaction.{HostState}
use Rattle.bg_rules.proofs.Patterns.{place_of_distinct, same_node_row}
use Rattle.bg_rules.specs.Instantiation.{is_among}
use Rattle.bg_rules.proofs.Upwards.{is_among-none, not_among}
use Rattle.bg_rewriting.specs.Boundaries.{MeetsFirst, first_here, first_above, IsBelow, IsPartOf}
use Rattle.bg_rewriting.proofs.Members.{Mem-children, child_row, children_up}
use Rattle.bg_index.specs.Walks.{IsWalkable, IsWalked}

distinct_up : (xs : List ℕ) → IsStrictlySortedBy nat_cmp xs → IsDistinct (λ (x y : ℕ). x == y) xs
distinct_up xs up =
    subst (IsDistinct (λ (x y : ℕ). x == y)) (map-id xs)
    (IsDistinct-map_on (eq_by_cmp nat_cmp) (λ (x y : ℕ). x == y) (λ x. x) xs (λ x y m n apart. eqb-nat_cmp x y ∙ apart)
    (IsDistinct-from_Ascending xs (Ascending-from_sorted xs up)))

-- the place of an item among the first of an append
At-left : {x i : ℕ} (xs ys : List ℕ) → i < length xs → At x i (xs ++ ys) → At x i xs
At-left {x} {i} xs ys below a =
    let w = At-total xs i below in At-same (At-one (At-append_left xs ys w.1) a) w.1

module _ (state : HostState) (nodes : List ℕ) (node : ℕ) (is_host : IsHost state) (walkable : IsWalkable state.big nodes node) where
  abbrev host : Big
  host = state.big

  valid : IsValid host
  valid = is_host.numbered.ground.valid

  pub walk_step : (at : ℕ) (numbers : List ℕ) (upper : ℕ) → IsWalked host nodes node at numbers → At upper at numbers
      → IsWalked host nodes node (at + 1) (numbers ++ children_of (places_of host) (Node upper))
  walk_step at numbers upper is a =
      record {
        upto = (let long = length-append numbers children in let below = At-below a in omega (arith, long, below));
        distinct = IsDistinct-append (λ (x y : ℕ). x == y) numbers children is.distinct (distinct_up children (children_up host (Node upper) valid)) apart;
        below = below;
        tops = λ row m none e. Mem-append_left numbers children (is.tops row m none e);
        closed = closed;
      }
    where
      children : List ℕ
      children = children_of (places_of host) (Node upper)

      upper_row : (row : NodeRow) × IsBelow host.nodes nodes node row × (row.id ≡ upper)
      upper_row = let w = is.below upper (Mem-from_At a) in (w.0, w.1, w.2)

      of_children : (child : ℕ) → Mem child (children_of (places_of host) (Node upper)) → (row : NodeRow) × IsBelow host.nodes nodes node row × (row.id ≡ child) × (row.parent ≡ Node upper)
      of_children child m =
          let w = child_row host (Node upper) m in
          (w.0, walkable.children upper_row.0 w.0 upper_row.1 w.1 (w.3 ∙ ap Node (sym upper_row.2)), w.2, w.3)

      apart : (x y : ℕ) → Mem x numbers → Mem y (children_of (places_of host) (Node upper)) → (x == y) ≡ false
      apart x y m n =
          false_from_ne_true (x == y)
          (λ e. let same = eqb-true x y e in
          let w = is.below x m in
          let v = of_children y n in
          let one = same_node_row host valid w.1.of_rows v.1.of_rows (w.2 ∙ same ∙ sym v.2) in
          let parent : w.0.parent ≡ Node upper = ap (λ (r : NodeRow). r.parent) one ∙ v.3 in
          elim w.3 [
            | inl f ↦ (let z : Node node ≡ Node upper = sym f ∙ parent in
                let at_node : node ≡ upper = cc in
                upper_row.1.no_image (Mem-same (at_node ∙ sym upper_row.2) walkable.among))
            | inr u ↦ (let z : Node u.1 ≡ Node upper = sym u.4 ∙ parent in
                let at_upper : u.1 ≡ upper = cc in
                let place = place_of_distinct (λ (x y : ℕ). x == y) (λ k. eq-eqb k k refl) numbers is.distinct (At-same at_upper u.3) a in
                let less = u.2 in
                absurd (omega (arith, place, less)))
          ])

      below : (number : ℕ) → Mem number (numbers ++ children_of (places_of host) (Node upper)) → (row : NodeRow) × IsBelow host.nodes nodes node row × (row.id ≡ number)
          × ((row.parent ≡ Node node) ⊎ ((i : ℕ) × (over : ℕ) × (i < at + 1) × At over i (numbers ++ children_of (places_of host) (Node upper)) × (row.parent ≡ Node over)))
      below number m =
          elim (Mem-append_cases numbers (children_of (places_of host) (Node upper)) m) [
            | inl k ↦ (let w = is.below number k in (
              w.0,
              w.1,
              w.2,
              elim w.3 [
                | inl f ↦ inl f
                | inr u ↦ (let less = u.2 in inr (u.0, u.1, (omega (arith, less)), At-append_left numbers (children_of (places_of host) (Node upper)) u.3, u.4))
              ],
            ))
            | inr k ↦ (let w = of_children number k in (w.0, w.1, w.2, inr (at, upper, (omega arith), At-append_left numbers (children_of (places_of host) (Node upper)) a, w.3)))
          ]

      closed : (i over : ℕ) → i < at + 1 → At over i (numbers ++ children_of (places_of host) (Node upper)) → (row : NodeRow) → Mem row host.nodes → row.parent ≡ Node over
          → Mem row.id (numbers ++ children_of (places_of host) (Node upper))
      closed i over less b row m e =
          let inside = At-below a in
          let c : At over i numbers = At-left numbers (children_of (places_of host) (Node upper)) (omega (arith, inside, less)) b in
          elim (cases_lt i at) [
            | inl early ↦ Mem-append_left numbers (children_of (places_of host) (Node upper)) (is.closed i over early c row m e)
            | inr late ↦ (let place : i ≡ at = omega (arith, less, late) in
                let same : over ≡ upper = At-one (subst (λ k. At over k numbers) place c) a in
                Mem-append_right numbers (children_of (places_of host) (Node upper)) (Mem-children host (Node upper) m (e ∙ ap Node same)))
          ]

  -- the beginning
  pub walk_begins : (numbers : List ℕ) → numbers ≡ filter (λ number. not (is_among number nodes)) (children_of (places_of host) (Node node))
      → IsWalked host nodes node 0 numbers
  walk_begins numbers e = subst (IsWalked host nodes node 0) (sym e) begun
    where
      all : List ℕ
      all = children_of (places_of host) (Node node)

      first : List ℕ
      first = filter (λ number. not (is_among number nodes)) (children_of (places_of host) (Node node))

      begun : IsWalked host nodes node 0 (filter (λ number. not (is_among number nodes)) (children_of (places_of host) (Node node)))
      begun =
          record {
            upto = omega arith;
            distinct = distinct_up (filter (λ number. not (is_among number nodes)) (children_of (places_of host) (Node node)))
                (sorted_from_Ascending {cmp = nat_cmp} (filter (λ number. not (is_among number nodes)) (children_of (places_of host) (Node node)))
                (Ascending-filter (λ number. not (is_among number nodes)) (children_of (places_of host) (Node node))
                (Ascending-from_sorted (children_of (places_of host) (Node node)) (children_up host (Node node) valid))));
            below = λ number m.
                let w = Mem-unfilter (λ number. not (is_among number nodes)) (children_of (places_of host) (Node node)) m in
                let v = child_row host (Node node) w.0 in
                let none : Mem v.0.id nodes → ⊥ = λ k. not_among nodes (not-true (is_among number nodes) w.1) (Mem-same v.2 k) in
                (v.0, record { of_rows = v.1; no_image = none; under = first_here v.3 walkable.among }, v.2, inl v.3);
            tops = λ row m none e.
                Mem-filter (λ number. not (is_among number nodes)) (children_of (places_of host) (Node node)) (Mem-children host (Node node) m e)
                (not_from_false (is_among row.id nodes) (is_among-none nodes row.id none));
            closed = λ i upper less a row m e. absurd (omega (arith, less));
          }

  -- there are no more than there are numbers
  pub walk_few : (at : ℕ) (numbers : List ℕ) → IsWalked host nodes node at numbers → length numbers ≤ state.next_node
  walk_few at numbers is =
      length-le_from_distinct_below numbers state.next_node is.distinct
      (λ q any. let w = member_from_list_any (eqb q) numbers any in
      let v = is.below w.0 w.1 in
      let less = All-member (λ (r : NodeRow). r.id < state.next_node) host.nodes is_host.numbered.nodes_below v.1.of_rows in
      subst (λ n. n < state.next_node) (v.2 ∙ sym (eqb-true q w.0 w.2)) less)

  -- the end: with the children of all its members the walk has the part
  pub walk_ends : (numbers part : List ℕ) → IsWalked host nodes node (length numbers) numbers → IsPermutation numbers part → IsSorted nat_cmp part
      → IsPartOf host nodes node part
  walk_ends numbers part is same sorted =
      let distinct : IsDistinct (eq_by_cmp nat_cmp) numbers = subst (IsDistinct (eq_by_cmp nat_cmp)) (map-id numbers)
      (IsDistinct-map_on (λ (x y : ℕ). x == y) (eq_by_cmp nat_cmp) (λ x. x) numbers (λ x y m n apart. sym (eqb-nat_cmp x y) ∙ apart) is.distinct) in
      let order = sorted_by nat_cmp_total numbers part distinct same sorted in
      record {
        ascends = subst (IsStrictlySortedBy nat_cmp) (sym order)
            (sorted_from_Ascending {cmp = nat_cmp} (sort (before nat_cmp) numbers) (Ascending-sort nat_cmp_total numbers distinct));
        below = λ number m. let w = is.below number (Mem-unpermutation numbers part same m) in (w.0, w.1, w.2);
        all = λ row low. Mem-permutation numbers part same (reached low.under row low.of_rows low.no_image refl);
      }
    where
      reached : {place : Place} → MeetsFirst host.nodes nodes node place → (child : NodeRow) → Mem child host.nodes → (Mem child.id nodes → ⊥)
          → child.parent ≡ place → Mem child.id numbers
      reached (first_here f k) child m none e = is.tops child m none (e ∙ f)
      reached (first_above {row = row} n f no_image up) child m none e =
          let w = reached up row n no_image refl in
          let a = At-from_Mem w in
          is.closed a.0 row.id (At-below a.1) a.1 child m (e ∙ f)
