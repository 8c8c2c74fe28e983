-- The points of new rows by the keys of their links: those of one key are the ports on the link.
use Rattle.std.proofs.Common.{◌≡◌, ℕ, ◌+◌, ◌-◌, ◌*◌, ◌<◌, ◌≤◌, ◌==◌, Bool, true, false, Less, List, [], ◌∷◌, ◌++◌, append_assoc, append-nil, length, map, filter, take, drop, get_or, nat_cmp, is_eq, is_lt, ltb, leb, eqb-true, eq-eqb, refl, sym, ap, subst, ◌∙◌, inl, inr, arith}
use Rattle.std.specs.List.{position_or_len}
use Rattle.std.specs.List.Sorted.{IsStrictlySortedBy, IsPartitionPoint, IsPartitionedBy, IsNonDecreasingBy, IsStableBy}
use Rattle.std.proofs.lemmas.Bool.{cases_Bool, false_from_ne_true}
use Rattle.std.proofs.lemmas.Bool.Decides.{nat_tests}
use Rattle.std.proofs.lemmas.List.{map-id, map-append, take_more}
use Rattle.std.proofs.lemmas.List.Sums.{passes_at_first}
use Rattle.bg_lists.specs.Lists.{Mem, At}
use Rattle.bg_lists.proofs.Ascents.{Ascending-from_sorted, one_place}
use Rattle.bg_lists.proofs.Comparisons.{Less-not_itself}
use Rattle.bg_lists.proofs.Groups.{stable_group, group_found}
use Rattle.bg_lists.proofs.Members.{Mem-append_cases, Mem-cons_cases, map-map, filter-map, filter_agree_on, Mem-filter, Mem-unfilter}
use Rattle.bg_lists.proofs.Places.{At-below, Mem-from_At, get_or-At}
use Rattle.bg_base.specs.declared.names.Name.{Name}
use Rattle.bg_base.specs.declared.names.Link.{Link}
use Rattle.bg_base.specs.declared.names.Link.TheVariants.{Edge, Outer}
use Rattle.bg_base.specs.declared.big.NodeRow.{NodeRow}
use Rattle.bg_base.specs.Order.{name_cmp}
use Rattle.bg_base.specs.OrderLaws.{name_cmp_total}
use Rattle.bg_base.specs.Products.{same_link}
use Rattle.bg_base.proofs.NameLaws.{same_name_from_test, test_same_name}
use Rattle.bg_link.specs.declared.graph.Point.{Point}
use Rattle.bg_link.specs.declared.graph.Point.TheVariants.{Port}
use Rattle.bg_link.specs.declared.graph.PortRow.{PortRow}
use Rattle.bg_link.specs.Links.{port_row, ports_from, ports_in, point_of}
use Rattle.bg_rewriting.specs.Keeping.{ports_on}
use Rattle.bg_rewriting.proofs.RowLaws.{At-name}
use Rattle.bg_index.specs.declared.point_arrivals.Arrival.{Arrival}
use Rattle.bg_index.specs.declared.plans.LinkKey.{LinkKey}
use Rattle.bg_index.specs.declared.plans.LinkKey.TheVariants.{Edge as EdgeKey, Name as NameKey}
use Rattle.bg_index.specs.Arrivals.{key_of, arrived, arrival_rank, arrival_point, arrived_from, points_arriving, AreArrivals}
use Rattle.bg_index.specs.Plans.{IsKeyOf, key_rank}

-- ---- keys are equal exactly where the links are

same_numbers : (m n : ℕ) → (m * 2 == n * 2) ≡ (m == n)
same_numbers m n = grind (arith, nat_tests)

names_apart : (m n : ℕ) → (m * 2 + 1 == n * 2) ≡ false
names_apart m n = false_from_ne_true (m * 2 + 1 == n * 2) (λ e. let same = eqb-true (m * 2 + 1) (n * 2) e in omega (arith, same))

edges_apart : (m n : ℕ) → (m * 2 == n * 2 + 1) ≡ false
edges_apart m n = false_from_ne_true (m * 2 == n * 2 + 1) (λ e. let same = eqb-true (m * 2) (n * 2 + 1) e in omega (arith, same))

same_places : (m n : ℕ) → (m * 2 + 1 == n * 2 + 1) ≡ (m == n)
same_places m n = grind (arith, nat_tests)

module _ (outer : List Name) (up : IsStrictlySortedBy name_cmp outer) where
  abbrev place_of : Name → ℕ
  place_of name = position_or_len (λ (other : Name). is_eq (name_cmp other name)) outer

  place_is : {at : ℕ} {name : Name} → At name at outer → place_of name ≡ at
  place_is {at} {name} a =
      one_place {Below = λ m n. name_cmp m n ≡ Less} outer (λ n less. Less-not_itself name_cmp_total n less)
      (Ascending-from_sorted outer up) (At-name outer (Mem-from_At a)) a

  name_from_place : {at : ℕ} {name : Name} (other : Name) → At name at outer → place_of other ≡ at → other ≡ name
  name_from_place {at} {name} other a e =
      let inside : place_of other < length outer = subst (λ n. n < length outer) (sym e) (At-below a) in
      let found = same_name_from_test (get_or outer (place_of other) name) other
      (passes_at_first (λ (n : Name). is_eq (name_cmp n other)) outer name inside) in
      sym found ∙ get_or-At outer name (subst (λ n. At name n outer) (sym e) a)

  place_test : {at : ℕ} {name : Name} (other : Name) → At name at outer → (place_of other == at) ≡ is_eq (name_cmp other name)
  place_test {at} {name} other a =
      elim (cases_Bool (is_eq (name_cmp other name))) [
        | inl pass ↦ eq-eqb (place_of other) at (ap place_of (same_name_from_test other name pass) ∙ place_is a) ∙ sym pass
        | inr fail ↦ false_from_ne_true (place_of other == at)
            (λ e. let same = name_from_place other a (eqb-true (place_of other) at e) in
            let bad : true ≡ false = sym (test_same_name other name same) ∙ fail in cc) ∙ sym fail
      ]

  pub same_key : (key : LinkKey) (link other : Link) → IsKeyOf outer key link → (key_rank (key_of outer other) == key_rank key) ≡ same_link other link
  same_key (EdgeKey edge) link (Edge own) e = same_numbers own edge ∙ ap (λ l. same_link (Edge own) l) (sym e)
  same_key (EdgeKey edge) link (Outer name) e = names_apart (place_of name) edge ∙ ap (λ l. same_link (Outer name) l) (sym e)
  same_key (NameKey at) link (Edge own) w = edges_apart own at ∙ ap (λ l. same_link (Edge own) l) (sym w.2)
  same_key (NameKey at) link (Outer name) w =
      same_places (place_of name) at ∙ place_test name w.1 ∙ ap (λ l. same_link (Outer name) l) (sym w.2)

  -- ---- what arrives at a link

  arrived_points : (key : LinkKey) (link : Link) → IsKeyOf outer key link → (rows : List NodeRow) → points_arriving (arrived_from outer rows) key ≡ ports_on link rows
  arrived_points key link is rows =
      let ports = ports_in (map port_row rows) in
      let by_key : Point × Link → Bool = λ tied. key_rank (key_of outer tied.1) == key_rank key in
      let by_link : Point × Link → Bool = λ tied. same_link tied.1 link in
      ap (map arrival_point) (filter-map (arrived outer) (λ (arrival : Arrival). arrival_rank arrival == key_rank key) ports)
      ∙ map-map (arrived outer) arrival_point (filter by_key ports)
      ∙ ap (map point_of) (filter_agree_on by_key by_link ports (λ tied m. same_key key link tied.1 is))

  pub arriving_points : (key : LinkKey) (link : Link) → IsKeyOf outer key link → (rows : List NodeRow) (arrivals : List Arrival)
      → AreArrivals outer rows arrivals → points_arriving arrivals key ≡ ports_on link rows
  arriving_points key link is rows arrivals are = ap (map arrival_point) (are.same key) ∙ arrived_points key link is rows

-- each point arrives
pub arrival_there : {outer : List Name} {rows : List NodeRow} {arrivals : List Arrival} {arrival : Arrival} → AreArrivals outer rows arrivals
    → Mem arrival (arrived_from outer rows) → Mem arrival arrivals
arrival_there {outer} {rows} {arrivals} {arrival} are m =
    let test : Arrival → Bool = λ other. arrival_rank other == key_rank arrival.key in
    let k = Mem-filter test (arrived_from outer rows) m (eq-eqb (key_rank arrival.key) (key_rank arrival.key) refl) in
    (Mem-unfilter test arrivals (subst (λ (xs : List Arrival). Mem arrival xs) (sym (are.same arrival.key)) k)).0

-- and what arrives is such a point
pub arrival_back : {outer : List Name} {rows : List NodeRow} {arrivals : List Arrival} {arrival : Arrival} → AreArrivals outer rows arrivals
    → Mem arrival arrivals → Mem arrival (arrived_from outer rows)
arrival_back {outer} {rows} {arrivals} {arrival} are m =
    let test : Arrival → Bool = λ other. arrival_rank other == key_rank arrival.key in
    let k = Mem-filter test arrivals m (eq-eqb (key_rank arrival.key) (key_rank arrival.key) refl) in
    (Mem-unfilter test (arrived_from outer rows) (subst (λ (xs : List Arrival). Mem arrival xs) (are.same arrival.key) k)).0

-- the ports of one more row
ports_in-append : (rows others : List PortRow) → ports_in (rows ++ others) ≡ ports_in rows ++ ports_in others
ports_in-append [] others = refl
ports_in-append (row ∷ rows) others =
    ap (λ xs. ports_from row.node 0 row.links ++ xs) (ports_in-append rows others)
    ∙ sym (append_assoc (ports_from row.node 0 row.links) (ports_in rows) (ports_in others))

pub arrived_more : (outer : List Name) (rows : List NodeRow) (at : ℕ) (row : NodeRow) → at < length rows → row ≡ get_or rows at row
    → arrived_from outer (take (at + 1) rows) ≡ arrived_from outer (take at rows) ++ map (arrived outer) (ports_from row.id 0 row.links)
arrived_more outer rows at row below is =
    let front = take at rows in
    ap (arrived_from outer) (take_more rows at row below)
    ∙ ap (λ (r : NodeRow). arrived_from outer (front ++ r ∷ [])) (sym is)
    ∙ ap (λ ps. map (arrived outer) (ports_in ps)) (map-append port_row front (row ∷ []))
    ∙ ap (map (arrived outer)) (ports_in-append (map port_row front) (port_row row ∷ []))
    ∙ ap (λ xs. map (arrived outer) (ports_in (map port_row front) ++ xs)) (append-nil (ports_from row.id 0 row.links))
    ∙ map-append (arrived outer) (ports_in (map port_row front)) (ports_from row.id 0 row.links)

-- what holds of all holds of one more
pub all_more : {X : Type 0} (P : X → Type 0) (xs : List X) (x : X) → ((y : X) → Mem y xs → P y) → P x → (y : X) → Mem y (xs ++ x ∷ []) → P y
all_more P xs x all one y m =
    elim (Mem-append_cases xs (x ∷ []) m) [
      | inl k ↦ all y k
      | inr k ↦ elim (Mem-cons_cases k) [ inl e ↦ subst P e one | inr n ↦ elim n [ ] ]
    ]

-- what a stable sort by the keys leaves
pub arrivals_sorted : (outer : List Name) (rows : List NodeRow) (made sorted : List Arrival) → made ≡ arrived_from outer rows
    → IsNonDecreasingBy arrival_rank sorted → IsStableBy (λ x y. is_lt (nat_cmp (arrival_rank x) (arrival_rank y))) made sorted
    → AreArrivals outer rows sorted
arrivals_sorted outer rows made sorted is rise stable =
    record {
      rise = rise;
      same = λ key. let row : Arrival = record { key = key; point = Port 0 0 } in
          stable_group arrival_rank made sorted stable row ∙ ap (filter (λ (arrival : Arrival). arrival_rank arrival == key_rank key)) is;
    }

-- two searches by the key
pub arriving_found : (arrivals : List Arrival) (key : LinkKey) (wanted start count : ℕ) → IsNonDecreasingBy arrival_rank arrivals
    → wanted ≡ key_rank key → start ≤ length arrivals
    → (IsPartitionedBy (λ y. ltb (arrival_rank y) wanted) arrivals
    → IsPartitionPoint (λ y. ltb (arrival_rank y) wanted ≡ true) (λ y. ltb (arrival_rank y) wanted ≡ false) arrivals start)
    → (IsPartitionedBy (λ y. leb (arrival_rank y) wanted) (take (length arrivals - start) (drop start arrivals))
    → IsPartitionPoint (λ y. leb (arrival_rank y) wanted ≡ true) (λ y. leb (arrival_rank y) wanted ≡ false) (take (length arrivals - start) (drop start arrivals)) count)
    → take (start + count - start) (drop start arrivals) ≡ filter (λ (arrival : Arrival). arrival_rank arrival == key_rank key) arrivals
arriving_found arrivals key wanted start count rise is inside lower upper =
    group_found arrival_rank (λ (arrival : Arrival). arrival) arrivals arrivals rise (sym (map-id arrivals)) wanted start count inside lower upper
    ∙ map-id (filter (λ (arrival : Arrival). arrival_rank arrival == wanted) arrivals)
    ∙ ap (λ n. filter (λ (arrival : Arrival). arrival_rank arrival == n) arrivals) is
