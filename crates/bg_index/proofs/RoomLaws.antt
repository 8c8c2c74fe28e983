-- Room that is made, and what is seen stays.
use Rattle.std.proofs.Common.{◌≡◌, ℕ, ◌<◌, ◌≤◌, ◌+◌, ◌-◌, ◌^◌, ◌==◌, true, false, is_lt, ltb, leb, nat_cmp, filter, map, Option, unwrap_or, option_map, List, [], ◌∷◌, ◌++◌, inl, inr, length, take, drop, slice_set, vec_len, vec_capacity, refl, sym, ap, subst, ◌∙◌, arith}
use Rattle.std.specs.List.Sorted.{IsNonDecreasingBy, IsPartitionedBy, IsPartitionPoint, IsStableBy, IsStrictlySortedBy}
use Rattle.std.proofs.lemmas.List.{length-map, map-id, take-append-drop}
use Rattle.bg_lists.proofs.Comparisons.{tied_numbers}
use Rattle.slab.specs.Slab.{get}
use Rattle.bg_lists.specs.Lists.{Mem, there, At}
use Rattle.bg_lists.proofs.Members.{Mem-cons_cases, Mem-append_left, Mem-append_right, Mem-append_cases, filter-map, map-map, map_agree}
use Rattle.bg_lists.proofs.Groups.{group_found, stable_group}
use Rattle.bg_lists.proofs.Ascents.{Ascending-from_sorted, same_member}
use Rattle.bg_lists.proofs.Places.{At-below, At-total, Mem-from_At}
use Rattle.bg_base.specs.declared.names.Link.TheVariants.{Edge}
use Rattle.bg_link.specs.declared.graph.Point.{Point}
use Rattle.bg_link.specs.Links.{links_of, points_of}
use Rattle.bg_base.specs.declared.big.NodeRow.{NodeRow}
use Rattle.bg_index.specs.declared.entries.ControlEntry.{ControlEntry}
use Rattle.bg_index.specs.declared.entries.EdgeEntry.{EdgeEntry}
use Rattle.bg_index.specs.declared.entries.Index.{Index}
use Rattle.bg_index.specs.declared.entries.NameEntry.{NameEntry}
use Rattle.bg_index.specs.declared.entries.NodeEntry.{NodeEntry}
use Rattle.bg_index.specs.declared.plans.Bundle.{Bundle}
use Rattle.bg_index.specs.declared.plans.LinkKey.TheVariants.{Edge as EdgeKey, Name as NameKey}
use Rattle.bg_index.specs.Commits.{AreBeside, AreFrom, ArePointsRoomier, AreRoomier, AreRoomy, HasRoomy, IsEdgeRoomier, IsNameRoomier, IsRoomier, IsRoomy, control_key, edge_key}
use Rattle.bg_index.specs.Indexed.{IsIndex, IsIndexOf, AreSorted, control_cmp, edge_cmp, slot_cmp, host_of, no_row, row_at, rows_of}
use Rattle.bg_index.specs.Plans.{EdgesHaveRoom, NamesHaveRoom}
use Rattle.bg_index.specs.PortNodes.{HasRoomBeside, KeptPoints, nodes_on}
use Rattle.bg_rules.specs.Lookups.{nodes_with}
use Rattle.bg_rules.specs.Reaction.{HostState}
use Rattle.bg_index.proofs.CommitNodeLaws.{beside_on, beside_same, beside_set}
use Rattle.bg_index.proofs.ControlLaws.{set_cases}
use Rattle.bg_index.proofs.KeyLaws.{from_ascends, from_on, from_same, from_set, from_there}

-- ---- controls

pub roomier_same : (controls : List ControlEntry) → AreRoomier controls controls
roomier_same controls was m = (was, m, refl, refl, omega arith)

pub roomier_on : (xs ys zs : List ControlEntry) → AreRoomier xs ys → AreRoomier ys zs → AreRoomier xs zs
roomier_on xs ys zs first second was m =
    let v = first was m in let w = second v.0 v.1 in
    let low = v.4 in let high = w.4 in
    (w.0, w.1, w.2 ∙ v.2, w.3 ∙ v.3, omega arith)

pub roomier_insert : (n : ℕ) (entry : ControlEntry) (xs : List ControlEntry) → AreRoomier xs (take n xs ++ entry ∷ drop n xs)
roomier_insert n entry xs was m =
    let all : Mem was (take n xs ++ entry ∷ drop n xs)
    = elim (Mem-append_cases (take n xs) (drop n xs) (subst (λ zs. Mem was zs) (sym (take-append-drop n xs)) m)) [
      | inl k ↦ Mem-append_left (take n xs) (entry ∷ drop n xs) k
      | inr k ↦ Mem-append_right (take n xs) (entry ∷ drop n xs) (there k)
    ] in
    (was, all, refl, refl, omega arith)

pub roomy_kept : (rows all : List NodeRow) (old new : List ControlEntry) → AreRoomier old new → AreRoomy rows all old → AreRoomy rows all new
roomy_kept rows all old new roomier roomy row m =
    let v = roomy row m in let w = roomier v.0 v.1 in
    let room = v.2.room in let same = w.3 in let higher = w.4 in
    (w.0, w.1, record { named = w.2 ∙ v.2.named; room = omega arith })

pub roomy_both : (rows more_rows all : List NodeRow) (controls : List ControlEntry) → AreRoomy rows all controls → AreRoomy more_rows all controls
    → AreRoomy (rows ++ more_rows) all controls
roomy_both rows more_rows all controls first second row m =
    elim (Mem-append_cases rows more_rows m) [ inl k ↦ first row k | inr k ↦ second row k ]

pub roomy_one : (row : NodeRow) (all : List NodeRow) (controls : List ControlEntry) → HasRoomy row.control (length (nodes_with row.control all)) controls
    → AreRoomy (row ∷ []) all controls
roomy_one row all controls is other m =
    let same : row ≡ other = elim (Mem-cons_cases m) [ inl e ↦ e | inr k ↦ elim k [ ] ] in
    subst (λ (r : NodeRow). HasRoomy r.control (length (nodes_with r.control all)) controls) same is

-- ---- how many rows have a control

-- the controls of the rows in order have each as often as a row does
pub wanted_counts : (entries : List NodeEntry) (made sorted : List ℕ) → made ≡ map (λ (entry : NodeEntry). entry.row.control) entries
    → IsStableBy (λ x y. is_lt (nat_cmp x y)) made sorted → (control : ℕ)
    → length (filter (λ other. other == control) sorted) ≡ length (nodes_with control (map (λ (entry : NodeEntry). entry.row) entries))
wanted_counts entries made sorted are stable control =
    let rows : List NodeRow = map (λ (entry : NodeEntry). entry.row) entries in
    let theirs : List NodeRow = filter (λ (row : NodeRow). row.control == control) rows in
    ap length (stable_group (λ (n : ℕ). n) made sorted stable control)
    ∙ ap (λ xs. length (filter (λ other. other == control) xs)) (are ∙ sym (map-map (λ (entry : NodeEntry). entry.row) (λ (row : NodeRow). row.control) entries))
    ∙ ap length (filter-map (λ (row : NodeRow). row.control) (λ other. other == control) rows)
    ∙ length-map theirs (λ (row : NodeRow). row.control)
    ∙ sym (length-map theirs (λ (row : NodeRow). row.id))

-- two searches by the number
pub equal_found : (numbers : List ℕ) (number start count : ℕ) → IsNonDecreasingBy (λ (n : ℕ). n) numbers → start ≤ length numbers
    → (IsPartitionedBy (λ y. ltb y number) numbers → IsPartitionPoint (λ y. ltb y number ≡ true) (λ y. ltb y number ≡ false) numbers start)
    → (IsPartitionedBy (λ y. leb y number) (take (length numbers - start) (drop start numbers))
    → IsPartitionPoint (λ y. leb y number ≡ true) (λ y. leb y number ≡ false) (take (length numbers - start) (drop start numbers)) count)
    → take (start + count - start) (drop start numbers) ≡ filter (λ other. other == number) numbers
equal_found numbers number start count rise inside lower upper =
    group_found (λ (n : ℕ). n) (λ (n : ℕ). n) numbers numbers rise (sym (map-id numbers)) number start count inside lower upper
    ∙ map-id (filter (λ other. other == number) numbers)

-- ---- a control that gets room

module _ (controls : List ControlEntry) (at : ℕ) (was new : ControlEntry) (up : IsStrictlySortedBy control_cmp controls) (stood : At was at controls)
    (named : new.control ≡ was.control) (is : IsRoomier was new) where
  set_from : AreFrom control_key IsRoomier controls (slice_set controls at new)
  set_from =
      from_set control_key IsRoomier controls up at was new stood named is
      (λ x m differ. record { nodes = refl; count = refl; capacity = omega arith })

  pub room_ascends : IsStrictlySortedBy control_cmp (slice_set controls at new)
  room_ascends = from_ascends control_key IsRoomier controls (slice_set controls at new) set_from up

  pub room_roomier : AreRoomier controls (slice_set controls at new)
  room_roomier entry m =
      let w = from_there control_key IsRoomier controls (slice_set controls at new) set_from up entry m in (w.0, w.1, w.2, w.3.count, w.3.capacity)

  pub room_sorted : (rows : List NodeRow) → AreSorted rows controls → AreSorted rows (slice_set controls at new)
  room_sorted rows sorted =
      record {
        controls_ascend = room_ascends;
        controls_are = λ entry m. let w = set_from.each entry m in
            w.3.nodes ∙ sorted.controls_are w.0 w.1 ∙ ap (λ n. nodes_with n rows) w.2;
        each_there = λ row m. let w = sorted.each_there row m in
            let v = from_there control_key IsRoomier controls (slice_set controls at new) set_from up w.0 w.1 in (v.0, v.1, v.2 ∙ w.2);
      }

  pub room_there : (control more : ℕ) → was.control ≡ control → vec_len new.nodes + more ≤ vec_capacity new.nodes
      → HasRoomy control more (slice_set controls at new)
  room_there control more its room =
      let w = from_there control_key (λ x y. x ≡ was → y ≡ new) controls (slice_set controls at new)
      (from_set control_key (λ x y. x ≡ was → y ≡ new) controls up at was new stood named (λ _. refl)
      (λ x k differ same. absurd (differ (ap control_key same)))) up was (Mem-from_At stood) in
      let one = w.3 refl in (
        w.0,
        w.1,
        subst (λ y. IsRoomy control more y) (sym one) (record { named = named ∙ its; room = room }),
      )

-- ---- links that get room for points

pub points_kept_room : (was kept : KeptPoints) (arriving : List Point) → ArePointsRoomier was kept → HasRoomBeside was arriving → HasRoomBeside kept arriving
points_kept_room was kept arriving roomier room =
    let items = ap length roomier.items in
    let nodes = ap (λ ps. length (nodes_on ps)) roomier.items in
    let more_points = roomier.points in
    let more_nodes = roomier.nodes in
    let first = room.points in
    let second = room.nodes in
    record { points = omega arith; nodes = omega arith }

pub points_roomier_same : (kept : KeptPoints) → ArePointsRoomier kept kept
points_roomier_same kept = record { items = refl; points = omega arith; nodes = omega arith }

points_roomier_on : (x y z : KeptPoints) → ArePointsRoomier x y → ArePointsRoomier y z → ArePointsRoomier x z
points_roomier_on x y z first second =
    let a = first.points in
    let b = second.points in
    let c = first.nodes in
    let d = second.nodes in
    record { items = second.items ∙ first.items; points = omega arith; nodes = omega arith }

pub edges_roomier_same : (edges : List EdgeEntry) → AreFrom edge_key IsEdgeRoomier edges edges
edges_roomier_same edges = from_same edge_key IsEdgeRoomier edges (λ x m. points_roomier_same x.points)

pub edges_roomier_on : (xs ys zs : List EdgeEntry) → AreFrom edge_key IsEdgeRoomier xs ys → AreFrom edge_key IsEdgeRoomier ys zs
    → AreFrom edge_key IsEdgeRoomier xs zs
edges_roomier_on xs ys zs first second =
    from_on edge_key IsEdgeRoomier IsEdgeRoomier IsEdgeRoomier xs ys zs first second
    (λ x y z m n e f a b. points_roomier_on x.points y.points z.points a b)

pub edges_keep_room : (old new : List EdgeEntry) (bundles : List Bundle) → AreFrom edge_key IsEdgeRoomier old new → EdgesHaveRoom old bundles
    → EdgesHaveRoom new bundles
edges_keep_room old new bundles from room entry bundle m n e =
    let w = from.each entry m in
    points_kept_room w.0.points entry.points bundle.arriving.items w.3 (room w.0 bundle w.1 n (e ∙ ap EdgeKey (sym w.2)))

pub edges_have_both : (edges : List EdgeEntry) (xs ys : List Bundle) → EdgesHaveRoom edges xs → EdgesHaveRoom edges ys → EdgesHaveRoom edges (xs ++ ys)
edges_have_both edges xs ys first second entry bundle m n e =
    elim (Mem-append_cases xs ys n) [ inl k ↦ first entry bundle m k e | inr k ↦ second entry bundle m k e ]

pub names_roomier_same : (names : List NameEntry) → AreBeside IsNameRoomier names names
names_roomier_same names = beside_same IsNameRoomier names (λ i x. points_roomier_same x.points)

pub names_roomier_on : (xs ys zs : List NameEntry) → AreBeside IsNameRoomier xs ys → AreBeside IsNameRoomier ys zs → AreBeside IsNameRoomier xs zs
names_roomier_on xs ys zs first second =
    beside_on IsNameRoomier IsNameRoomier IsNameRoomier xs ys zs first second (λ i x y z a b. points_roomier_on x.points y.points z.points a b)

pub names_keep_room : (old new : List NameEntry) (bundles : List Bundle) → AreBeside IsNameRoomier old new → NamesHaveRoom old bundles
    → NamesHaveRoom new bundles
names_keep_room old new bundles beside room at entry bundle a n e =
    let w = At-total old at (subst (λ n. at < n) beside.many (At-below a)) in
    points_kept_room w.0.points entry.points bundle.arriving.items (beside.each at w.0 entry w.1 a) (room at w.0 bundle w.1 n e)

pub names_have_both : (names : List NameEntry) (xs ys : List Bundle) → NamesHaveRoom names xs → NamesHaveRoom names ys → NamesHaveRoom names (xs ++ ys)
names_have_both names xs ys first second at entry bundle a n e =
    elim (Mem-append_cases xs ys n) [ inl k ↦ first at entry bundle a k e | inr k ↦ second at entry bundle a k e ]

-- an edge that gets room
module _ (edges : List EdgeEntry) (at : ℕ) (was new : EdgeEntry) (up : IsStrictlySortedBy edge_cmp edges) (stood : At was at edges)
    (named : new.edge ≡ was.edge) (is : IsEdgeRoomier was new) where
  pub edge_roomier : AreFrom edge_key IsEdgeRoomier edges (slice_set edges at new)
  edge_roomier = from_set edge_key IsEdgeRoomier edges up at was new stood named is (λ x m differ. points_roomier_same x.points)

  pub edge_has_room : (edge : ℕ) (arriving : List Point) → was.edge ≡ edge → HasRoomBeside new.points arriving
      → (entry : EdgeEntry) → Mem entry (slice_set edges at new) → entry.edge ≡ edge → HasRoomBeside entry.points arriving
  edge_has_room edge arriving its room entry m e =
      let from = from_set edge_key (λ x y. x ≡ was → y ≡ new) edges up at was new stood named (λ _. refl)
      (λ x k differ same. absurd (differ (ap edge_key same))) in
      let w = from.each entry m in
      let same : w.0 ≡ was = same_member {cmp = edge_cmp} (Ascending-from_sorted edges up) w.1 (Mem-from_At stood)
      (tied_numbers w.0.edge was.edge (w.2 ∙ e ∙ sym its)) (tied_numbers was.edge w.0.edge (its ∙ sym (w.2 ∙ e))) in
      subst (λ (x : EdgeEntry). HasRoomBeside x.points arriving) (sym (w.3 same)) room

-- an outer name that gets room
module _ (names : List NameEntry) (at : ℕ) (was new : NameEntry) (stood : At was at names) (is : ArePointsRoomier was.points new.points) where
  pub name_roomier : AreBeside IsNameRoomier names (slice_set names at new)
  name_roomier = beside_set IsNameRoomier names at was new stood is (λ i x differ. points_roomier_same x.points)

  pub name_has_room : (arriving : List Point) → HasRoomBeside new.points arriving → (entry : NameEntry) → At entry at (slice_set names at new)
      → HasRoomBeside entry.points arriving
  name_has_room arriving room entry a =
      elim (set_cases names at new a) [
        | inl w ↦ subst (λ (x : NameEntry). HasRoomBeside x.points arriving) w.1 room
        | inr w ↦ absurd (w.0 refl)
      ]

-- one bundle
only_one : {bundle other : Bundle} → Mem other (bundle ∷ []) → bundle ≡ other
only_one m = elim (Mem-cons_cases m) [ inl same ↦ same | inr k ↦ elim k [ ] ]

module _ (bundle : Bundle) (edge : ℕ) (is : bundle.key ≡ EdgeKey edge) where
  pub edge_own_room : (edges : List EdgeEntry) → ((entry : EdgeEntry) → Mem entry edges → entry.edge ≡ edge → HasRoomBeside entry.points bundle.arriving.items)
      → EdgesHaveRoom edges (bundle ∷ [])
  edge_own_room edges room entry other m n e =
      let same = only_one n in
      let both : EdgeKey edge ≡ EdgeKey entry.edge = sym is ∙ ap (λ (b : Bundle). b.key) same ∙ e in
      let one : edge ≡ entry.edge = cc in
      subst (λ (b : Bundle). HasRoomBeside entry.points b.arriving.items) same (room entry m (sym one))

  pub name_other_room : (names : List NameEntry) → NamesHaveRoom names (bundle ∷ [])
  name_other_room names at entry other a n e =
      let both : EdgeKey edge ≡ NameKey at = sym is ∙ ap (λ (b : Bundle). b.key) (only_one n) ∙ e in absurd (cc)

module _ (bundle : Bundle) (at : ℕ) (is : bundle.key ≡ NameKey at) where
  pub name_own_room : (names : List NameEntry) → ((entry : NameEntry) → At entry at names → HasRoomBeside entry.points bundle.arriving.items)
      → NamesHaveRoom names (bundle ∷ [])
  name_own_room names room i entry other a n e =
      let same = only_one n in
      let both : NameKey at ≡ NameKey i = sym is ∙ ap (λ (b : Bundle). b.key) same ∙ e in
      let one : at ≡ i = cc in
      subst (λ (b : Bundle). HasRoomBeside entry.points b.arriving.items) same (room entry (subst (λ n. At entry n names) (sym one) a))

  pub edge_other_room : (edges : List EdgeEntry) → EdgesHaveRoom edges (bundle ∷ [])
  edge_other_room edges entry other m n e =
      let both : NameKey at ≡ EdgeKey entry.edge = sym is ∙ ap (λ (b : Bundle). b.key) (only_one n) ∙ e in absurd (cc)

-- ---- the index

module _ (old new : Index) (is : IsIndex old) (nodes : (key : ℕ) → get new.nodes key ≡ get old.nodes key) (slots : new.slots.items ≡ old.slots.items)
    (regions : new.regions.items ≡ old.regions.items) (edges : AreFrom edge_key IsEdgeRoomier old.edges.items new.edges.items) (outer : new.outer ≡ old.outer)
    (names : AreBeside IsNameRoomier old.names.items new.names.items) (next_node : new.next_node ≡ old.next_node) (next_edge : new.next_edge ≡ old.next_edge) where
  same_rows : rows_of new.nodes new.slots.items ≡ rows_of old.nodes old.slots.items
  same_rows =
      ap (rows_of new.nodes) slots
      ∙ map_agree (row_at new.nodes) (row_at old.nodes) old.slots.items
      (λ slot m. ap (λ (o : Option NodeEntry). unwrap_or (option_map (λ (e : NodeEntry). e.row) o) no_row) (nodes slot.at))

  pub same_host : host_of new ≡ host_of old
  same_host =
      λ t. record {
        big = record { nodes = same_rows t; edges = edges.keys t; sites = []; inner = []; regions = length (regions t); outer = outer t };
        next_node = next_node t;
        next_edge = next_edge t;
      }

  same_parts : ((rows : List NodeRow) → AreSorted rows old.controls.items → AreSorted rows new.controls.items) → IsIndexOf (host_of old) new
  same_parts sorted =
      record {
        is_host = is.is_host;
        nested = record {
          slots_ascend = subst (λ ss. IsStrictlySortedBy slot_cmp ss) (sym slots) is.nested.slots_ascend;
          kept = λ slot m. let k = is.nested.kept slot (subst (λ ss. Mem slot ss) slots m) in
              record { entry = k.entry; found = nodes slot.at ∙ k.found; number = k.number; children = k.children };
          regions_are = λ region entry a. is.nested.regions_are region entry (subst (λ rs. At entry region rs) regions a);
          regions_few = subst (λ rs. length rs < 2 ^ 32) (sym regions) is.nested.regions_few;
        };
        tied = record {
          edges_are = λ entry m. let w = edges.each entry m in
              let was = is.tied.edges_are w.0 w.1 in
              record {
                points = w.3.items ∙ was.points ∙ ap (λ e. points_of (links_of (host_of old).big) (Edge e)) w.2;
                few = subst (λ (ps : List Point). length ps < 2 ^ 32) (sym w.3.items) was.few;
              };
          names_many = names.many ∙ is.tied.names_many;
          names_are = λ i name entry a b. let w = At-total old.names.items i (subst (λ n. i < n) names.many (At-below b)) in
              let was = is.tied.names_are i name w.0 a w.1 in
              let same = (names.each i w.0 entry w.1 b).items in
              record { points = same ∙ was.points; few = subst (λ (ps : List Point). length ps < 2 ^ 32) (sym same) was.few };
        };
        sorted = sorted (host_of old).big.nodes is.sorted;
      }

  pub same_index : ((rows : List NodeRow) → AreSorted rows old.controls.items → AreSorted rows new.controls.items) → IsIndex new
  same_index sorted = subst (λ (h : HostState). IsIndexOf h new) (sym same_host) (same_parts sorted)
