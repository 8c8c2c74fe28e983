-- What is found in an index.
use Rattle.std.proofs.Common.{◌≡◌, ℕ, ◌<◌, ◌^◌, ◌==◌, Bool, true, false, Option, Some, None, Result, Ok, Err, MatchResult, unwrap_or, option_map, List, [], ◌∷◌, length, map, take, drop, ◌+◌, ◌-◌, filter, get_or, slice_get, find, nat_cmp, is_eq, refl, sym, ap, subst, ◌∙◌, inl, inr, is_some, nat_lt, MatchOption, eqb-true, ltb-true, Bor, option_copied}
use Rattle.std.specs.Option.{option_and_then}
use Rattle.std.specs.List.{position_or_len}
use Rattle.std.specs.List.Sorted.{IsStrictlySortedBy, IsSearchInRange, IsBinarySearchResult}
use Rattle.std.proofs.lemmas.Bool.{cases_Bool, cond-true, cond-false, false_from_ne_true}
use Rattle.std.proofs.lemmas.Cmp.{nat_cmp_total}
use Rattle.std.proofs.lemmas.List.Sums.{passes_at_first}
use Rattle.std.proofs.lemmas.Option.{slice_get-map}
use Rattle.slab.specs.Slab.{Slab, get}
use Rattle.bg_lists.specs.Lists.{Mem, At, here, there}
use Rattle.bg_lists.proofs.Ascents.{Ascending-from_sorted, sorted_from_Ascending, Ascending-filter, Ascending-map, Ascending-unmap}
use Rattle.bg_lists.proofs.Comparisons.{eqb-nat_cmp}
use Rattle.bg_lists.proofs.Parts.{from_part}
use Rattle.bg_lists.proofs.Places.{At-same, At-get_or, At-total, At-below, At-map, At-slice_get, slice_get-At, Mem-from_At}
use Rattle.bg_lists.proofs.Searches.{find-search}
use Rattle.bg_lists.proofs.Words.{member_from_find, fails_from_find}
use Rattle.bg_base.specs.declared.names.Name.{Name}
use Rattle.bg_base.specs.declared.names.Place.{Place}
use Rattle.bg_base.specs.declared.names.Place.TheVariants.{Node, Region}
use Rattle.bg_base.specs.declared.names.Link.{Link}
use Rattle.bg_base.specs.declared.names.Link.TheVariants.{Edge, Outer}
use Rattle.bg_base.specs.declared.big.NodeRow.{NodeRow}
use Rattle.bg_base.specs.declared.big.Big.{Big}
use Rattle.bg_base.specs.Bigraph.{IsValid, row_of, outer_of, has_link}
use Rattle.bg_base.specs.Order.{name_cmp}
use Rattle.bg_base.proofs.NameLaws.{same_name_from_test}
use Rattle.bg_place.specs.declared.graph.ParentRow.{ParentRow}
use Rattle.bg_place.specs.declared.graph.Places.{Places}
use Rattle.bg_place.specs.Places.{parent_row, places_of, has_node, parent_of, children_of}
use Rattle.bg_place.proofs.AbsentLaws.{no_children}
use Rattle.bg_link.specs.declared.graph.PortRow.{PortRow}
use Rattle.bg_link.specs.Links.{port_row, links_of, link_of, points_of}
use Rattle.bg_link.specs.Rows.{point_cmp}
use Rattle.bg_link.proofs.AbsentLaws.{no_points}
use Rattle.bg_link.proofs.PointLaws.{points_of-ascend, linked}
use Rattle.bg_link.proofs.RankLaws.{name-search, position_inside}
use Rattle.bg_rules.specs.Lookups.{nodes_with}
use Rattle.bg_rewriting.proofs.Members.{children_up}
use Rattle.bg_rules.specs.Reaction.{HostState}
use Rattle.bg_index.specs.declared.entries.ControlEntry.{ControlEntry}
use Rattle.bg_index.specs.declared.entries.EdgeEntry.{EdgeEntry}
use Rattle.bg_index.specs.declared.entries.Index.{Index}
use Rattle.bg_index.specs.declared.entries.NameEntry.{NameEntry}
use Rattle.bg_index.specs.declared.entries.NodeEntry.{NodeEntry}
use Rattle.bg_index.specs.declared.entries.RegionEntry.{RegionEntry}
use Rattle.bg_index.specs.declared.entries.Slot.{Slot}
use Rattle.bg_index.specs.Indexed.{slot_cmp, edge_cmp, control_cmp, no_row, row_at, rows_of, host_of, IsSlotOf, AreSlotsOf, AreSorted, IsIndex}

-- ---- what a binary search answers

pub slot-search : (slots : List Slot) (node : ℕ) → IsStrictlySortedBy slot_cmp slots → (r : Result ℕ ℕ)
    → IsSearchInRange r (length slots) → IsBinarySearchResult (λ (slot : Slot). nat_cmp slot.node node) slots r
    → MatchResult r (λ at. (default : Slot) → find (λ (slot : Slot). slot.node == node) slots ≡ Some (get_or slots at default))
    (λ _. find (λ (slot : Slot). slot.node == node) slots ≡ None)
slot-search slots node up r range answer =
    find-search nat_cmp_total (λ (slot : Slot). slot.node) node (λ (slot : Slot). slot.node == node)
    (λ slot. eqb-nat_cmp slot.node node) slots (Ascending-from_sorted slots up) r range answer

pub edge-search : (entries : List EdgeEntry) (edge : ℕ) → IsStrictlySortedBy edge_cmp entries → (r : Result ℕ ℕ)
    → IsSearchInRange r (length entries) → IsBinarySearchResult (λ (entry : EdgeEntry). nat_cmp entry.edge edge) entries r
    → MatchResult r (λ at. (default : EdgeEntry) → find (λ (entry : EdgeEntry). entry.edge == edge) entries ≡ Some (get_or entries at default))
    (λ _. find (λ (entry : EdgeEntry). entry.edge == edge) entries ≡ None)
edge-search entries edge up r range answer =
    find-search nat_cmp_total (λ (entry : EdgeEntry). entry.edge) edge (λ (entry : EdgeEntry). entry.edge == edge)
    (λ entry. eqb-nat_cmp entry.edge edge) entries (Ascending-from_sorted entries up) r range answer

pub control-search : (entries : List ControlEntry) (control : ℕ) → IsStrictlySortedBy control_cmp entries → (r : Result ℕ ℕ)
    → IsSearchInRange r (length entries) → IsBinarySearchResult (λ (entry : ControlEntry). nat_cmp entry.control control) entries r
    → MatchResult r (λ at. (default : ControlEntry) → find (λ (entry : ControlEntry). entry.control == control) entries ≡ Some (get_or entries at default))
    (λ _. find (λ (entry : ControlEntry). entry.control == control) entries ≡ None)
control-search entries control up r range answer =
    find-search nat_cmp_total (λ (entry : ControlEntry). entry.control) control (λ (entry : ControlEntry). entry.control == control)
    (λ entry. eqb-nat_cmp entry.control control) entries (Ascending-from_sorted entries up) r range answer

-- what stands in a part of the slots stands among them
pub At-in_part : {slot : Slot} {at : ℕ} (from to : ℕ) (slots : List Slot) → At slot at (take (to - from) (drop from slots)) → At slot (from + at) slots
At-in_part {at = at} from to slots stands = At-slice_get (from + at) slots (from_part from (to - from) at slots (slice_get-At _ stands))

-- ---- rows by their numbers

-- what is found among what is made of items is made of what is found
pub find_made : {X Y : Type 0} (f : X → Y) (test : Y → Bool) (xs : List X) → find test (map f xs) ≡ option_map f (find (λ x. test (f x)) xs)
find_made f test [] = refl
find_made f test (x ∷ xs) =
    elim (cases_Bool (test (f x))) [
      | inl e ↦ cond-true (test (f x)) (Some (f x)) (find test (map f xs)) e
          ∙ sym (ap (option_map f) (cond-true (test (f x)) (Some x) (find (λ y. test (f y)) xs) e))
      | inr e ↦ cond-false (test (f x)) (Some (f x)) (find test (map f xs)) e ∙ find_made f test xs
          ∙ sym (ap (option_map f) (cond-false (test (f x)) (Some x) (find (λ y. test (f y)) xs) e))
    ]

pub node_there : (big : Big) (node : ℕ) → has_node (places_of big) node ≡ is_some (row_of big.nodes node)
node_there big node = ap is_some (find_made parent_row (λ (row : ParentRow). row.node == node) big.nodes) ∙ same (row_of big.nodes node)
  where
    same : (found : Option NodeRow) → is_some (option_map parent_row found) ≡ is_some found
    same None = refl
    same (Some row) = refl

pub parent_found : (big : Big) (node : ℕ) (row : NodeRow) → row_of big.nodes node ≡ Some row → parent_of (places_of big) node ≡ Some row.parent
parent_found big node row e =
    ap (option_map (λ (row : ParentRow). row.parent)) (find_made parent_row (λ (row : ParentRow). row.node == node) big.nodes ∙ ap (option_map parent_row) e)

-- the link of a port is that of the node's row
pub link_found : (big : Big) (node port : ℕ) (row : NodeRow) → row_of big.nodes node ≡ Some row
    → link_of (links_of big) node port ≡ slice_get row.links port
link_found big node port row e =
    ap (option_and_then (λ (row : PortRow). slice_get row.links port))
    (find_made port_row (λ (row : PortRow). row.node == node) big.nodes ∙ ap (option_map port_row) e)

pub no_link_found : (big : Big) (node port : ℕ) → row_of big.nodes node ≡ None → link_of (links_of big) node port ≡ None
no_link_found big node port e =
    ap (option_and_then (λ (row : PortRow). slice_get row.links port))
    (find_made port_row (λ (row : PortRow). row.node == node) big.nodes ∙ ap (option_map port_row) e)

-- ---- rows by their slots

-- what the slot leads to
pub row_kept : (places : Places) (nodes : Slab NodeEntry) (slot : Slot) → (k : IsSlotOf places nodes slot) → row_at nodes slot ≡ k.entry.row
row_kept places nodes slot k = ap (λ (o : Option NodeEntry). unwrap_or (option_map (λ (entry : NodeEntry). entry.row) o) no_row) k.found

module _ (places : Places) (nodes : Slab NodeEntry) (node : ℕ) where
  -- the row of a node is that to which its slot leads
  pub find_rows : (slots : List Slot) → AreSlotsOf places nodes slots → row_of (rows_of nodes slots) node ≡ option_map (row_at nodes) (find (λ (slot : Slot). slot.node == node) slots)
  find_rows [] kept = refl
  find_rows (slot ∷ slots) kept =
      let k = kept slot (here refl) in
      let test : ((row_at nodes slot).id == node) ≡ (slot.node == node) = ap (λ n. n == node) (ap (λ (r : NodeRow). r.id) (row_kept places nodes slot k) ∙ k.number) in
      let rest = find_rows slots (λ other m. kept other (there m)) in
      elim (cases_Bool (slot.node == node)) [
        | inl e ↦ cond-true ((row_at nodes slot).id == node) (Some (row_at nodes slot)) (row_of (rows_of nodes slots) node) (test ∙ e)
            ∙ sym (ap (option_map (row_at nodes)) (cond-true (slot.node == node) (Some slot) (find (λ (slot : Slot). slot.node == node) slots) e))
        | inr e ↦ cond-false ((row_at nodes slot).id == node) (Some (row_at nodes slot)) (row_of (rows_of nodes slots) node) (test ∙ e) ∙ rest
            ∙ sym (ap (option_map (row_at nodes)) (cond-false (slot.node == node) (Some slot) (find (λ (slot : Slot). slot.node == node) slots) e))
      ]

-- ---- nodes of a control

pub none_with : (control : ℕ) (rows : List NodeRow) → ((row : NodeRow) → Mem row rows → (row.control == control) ≡ false) → nodes_with control rows ≡ []
none_with control [] each = refl
none_with control (row ∷ rows) each =
    ap (map (λ (row : NodeRow). row.id)) (cond-false (row.control == control) (row ∷ filter (λ (row : NodeRow). row.control == control) rows)
    (filter (λ (row : NodeRow). row.control == control) rows) (each row (here refl)))
    ∙ none_with control rows (λ other m. each other (there m))

-- a control without an entry has no nodes
pub none_there : (rows : List NodeRow) (controls : List ControlEntry) → AreSorted rows controls → (control : ℕ)
    → find (λ (entry : ControlEntry). entry.control == control) controls ≡ None → nodes_with control rows ≡ []
none_there rows controls sorted control e =
    none_with control rows
    (λ row m. let w = sorted.each_there row m in
    ap (λ n. n == control) (sym w.2) ∙ fails_from_find (λ (entry : ControlEntry). entry.control == control) controls e w.1)

-- ---- entries of names

-- what is found at the position of an outer name
pub name-search_at : (outer : List Name) (names : List NameEntry) (name : Name) → IsStrictlySortedBy name_cmp outer → length names ≡ length outer
    → (r : Result ℕ ℕ) → IsSearchInRange r (length outer) → IsBinarySearchResult (λ other. name_cmp other name) outer r
    → MatchResult r (λ at. slice_get names at ≡ slice_get names (position_or_len (λ (other : Name). is_eq (name_cmp other name)) outer))
    (λ _. None ≡ slice_get names (position_or_len (λ (other : Name). is_eq (name_cmp other name)) outer))
name-search_at outer names name up many (Ok at) range answer = ap (slice_get names) (sym (name-search outer name up (Ok at) range answer))
name-search_at outer names name up many (Err at) range answer =
    sym (ap (slice_get names) (name-search outer name up (Err at) range answer ∙ sym many) ∙ past names)
  where
    past : (entries : List NameEntry) → slice_get entries (length entries) ≡ None
    past [] = refl
    past (entry ∷ entries) = past entries

-- ---- what is found in the index of a host

module _ (index : Index) (is : IsIndex index) (host : HostState) (seen : host_of index ≡ host) where
  abbrev made : Big
  made = (host_of index).big

  host_valid : IsValid host.big
  host_valid = subst (λ (h : HostState). IsValid h.big) seen is.is_host.numbered.ground.valid

  pub none_found : (node : ℕ) → find (λ (slot : Slot). slot.node == node) index.slots.items ≡ None → row_of host.big.nodes node ≡ None
  none_found node e =
      ap (λ (h : HostState). row_of h.big.nodes node) (sym seen) ∙ find_rows (places_of made) index.nodes node index.slots.items is.nested.kept
      ∙ ap (option_map (row_at index.nodes)) e

  pub slot_found : (node : ℕ) (slot : Slot) → find (λ (slot : Slot). slot.node == node) index.slots.items ≡ Some slot → (found : Option (Bor NodeEntry))
      → option_copied found ≡ get index.nodes slot.at
      → MatchOption found (row_of host.big.nodes node ≡ None)
      (λ entry. (row_of host.big.nodes node ≡ Some entry.now.row) × (entry.now.children.items ≡ children_of (places_of host.big) (Node node)))
  slot_found node slot e None same =
      let k = is.nested.kept slot (member_from_find (λ (slot : Slot). slot.node == node) index.slots.items slot e).0 in
      let bad : None ≡ Some k.entry = same ∙ k.found in absurd (cc)
  slot_found node slot e (Some entry) same =
      let w = member_from_find (λ (slot : Slot). slot.node == node) index.slots.items slot e in
      let k = is.nested.kept slot w.0 in
      let both : Some k.entry ≡ Some entry.now = sym k.found ∙ sym same in
      let one : k.entry ≡ entry.now = cc in (
        ap (λ (h : HostState). row_of h.big.nodes node) (sym seen) ∙ find_rows (places_of made) index.nodes node index.slots.items is.nested.kept
            ∙ ap (option_map (row_at index.nodes)) e ∙ ap Some (row_kept (places_of made) index.nodes slot k ∙ ap (λ (entry : NodeEntry). entry.row) one),
        ap (λ (entry : NodeEntry). entry.children.items) (sym one) ∙ k.children
            ∙ ap (λ n. children_of (places_of made) (Node n)) (eqb-true slot.node node w.1)
            ∙ ap (λ (h : HostState). children_of (places_of h.big) (Node node)) seen,
      )

  -- the row of a place is that to which its slot leads
  pub row_at_found : (at : ℕ) (entry : NodeEntry)
      → Some entry ≡ option_and_then (λ (slot : Slot). get index.nodes slot.at) (slice_get index.slots.items at)
      → Some entry.row ≡ slice_get host.big.nodes at
  row_at_found at entry e =
      led (slice_get index.slots.items at) e
      ∙ sym (slice_get-map (row_at index.nodes) index.slots.items at) ∙ ap (λ (h : HostState). slice_get h.big.nodes at) seen
    where
      led : (o : Option Slot) → Some entry ≡ option_and_then (λ (slot : Slot). get index.nodes slot.at) o → Some entry.row ≡ option_map (row_at index.nodes) o
      led (Some slot) e = ap (λ (o : Option NodeEntry). Some (unwrap_or (option_map (λ (entry : NodeEntry). entry.row) o) no_row)) e
      led None e = absurd (cc)

  pub no_row_at : (at : ℕ) → None ≡ option_and_then (λ (slot : Slot). get index.nodes slot.at) (slice_get index.slots.items at)
      → None ≡ slice_get host.big.nodes at
  no_row_at at e =
      led (slice_get index.slots.items at) (λ slot s. At-slice_get at index.slots.items s) e
      ∙ sym (slice_get-map (row_at index.nodes) index.slots.items at) ∙ ap (λ (h : HostState). slice_get h.big.nodes at) seen
    where
      led : (o : Option Slot) → ((slot : Slot) → o ≡ Some slot → At slot at index.slots.items)
          → None ≡ option_and_then (λ (slot : Slot). get index.nodes slot.at) o → None ≡ option_map (row_at index.nodes) o
      led None stands e = refl
      led (Some slot) stands e =
          let k = is.nested.kept slot (Mem-from_At (stands slot refl)) in
          let bad : None ≡ Some k.entry = e ∙ k.found in absurd (cc)

  -- so is that of a node
  pub position_found : (node at : ℕ) (slot : Slot) → At slot at index.slots.items
      → find (λ (slot : Slot). slot.node == node) index.slots.items ≡ Some slot → (row : NodeRow) × At row at host.big.nodes × (row.id ≡ node)
  position_found node at slot a e =
      let w = member_from_find (λ (slot : Slot). slot.node == node) index.slots.items slot e in
      let k = is.nested.kept slot w.0 in (
        row_at index.nodes slot,
        subst (λ (h : HostState). At (row_at index.nodes slot) at h.big.nodes) seen (At-map (row_at index.nodes) a),
        ap (λ (r : NodeRow). r.id) (row_kept (places_of made) index.nodes slot k) ∙ k.number ∙ eqb-true slot.node node w.1,
      )

  -- a node that is not there has no children
  pub no_node : (node : ℕ) → row_of host.big.nodes node ≡ None → [] ≡ children_of (places_of host.big) (Node node)
  no_node node e = sym (no_children host.big (Node node) host_valid (ap is_some e))

  pub region_found : (region : ℕ) (entry : RegionEntry) → true ≡ nat_lt region (length index.regions.items) → entry ≡ get_or index.regions.items region entry
      → entry.children.items ≡ children_of (places_of host.big) (Region region)
  region_found region entry below item =
      is.nested.regions_are region entry
      (At-same (sym item) (At-get_or index.regions.items region entry (ltb-true region (length index.regions.items) (sym below))))
      ∙ ap (λ (h : HostState). children_of (places_of h.big) (Region region)) seen

  pub no_region : (region : ℕ) → false ≡ nat_lt region (length index.regions.items) → [] ≡ children_of (places_of host.big) (Region region)
  no_region region past =
      sym (no_children host.big (Region region) host_valid (ap (λ (h : HostState). nat_lt region h.big.regions) (sym seen) ∙ sym past))

  pub control_found : (control : ℕ) (entry : ControlEntry) → find (λ (entry : ControlEntry). entry.control == control) index.controls.items ≡ Some entry
      → entry.nodes.items ≡ nodes_with control host.big.nodes
  control_found control entry e =
      let w = member_from_find (λ (entry : ControlEntry). entry.control == control) index.controls.items entry e in
      is.sorted.controls_are entry w.0 ∙ ap (λ n. nodes_with n made.nodes) (eqb-true entry.control control w.1)
      ∙ ap (λ (h : HostState). nodes_with control h.big.nodes) seen

  pub no_control : (control : ℕ) → find (λ (entry : ControlEntry). entry.control == control) index.controls.items ≡ None
      → [] ≡ nodes_with control host.big.nodes
  no_control control e =
      sym (none_there made.nodes index.controls.items is.sorted control e) ∙ ap (λ (h : HostState). nodes_with control h.big.nodes) seen

  -- a node whose entry is found is there
  pub entry_there : (node : ℕ) (found : Option (Bor NodeEntry)) → MatchOption found (row_of host.big.nodes node ≡ None)
      (λ entry. (row_of host.big.nodes node ≡ Some entry.now.row) × (entry.now.children.items ≡ children_of (places_of host.big) (Node node)))
      → is_some found ≡ has_node (places_of host.big) node
  entry_there node None e = sym (node_there host.big node ∙ ap is_some e)
  entry_there node (Some entry) w = sym (node_there host.big node ∙ ap is_some w.0)

  pub edges_up : IsStrictlySortedBy edge_cmp index.edges.items
  edges_up =
      sorted_from_Ascending {cmp = edge_cmp} index.edges.items
      (Ascending-unmap (λ (entry : EdgeEntry). entry.edge) index.edges.items
      (Ascending-from_sorted made.edges is.is_host.numbered.ground.valid.edges_ascend))

  pub edge_found : (edge : ℕ) (entry : EdgeEntry) → find (λ (entry : EdgeEntry). entry.edge == edge) index.edges.items ≡ Some entry
      → entry.points.items ≡ points_of (links_of host.big) (Edge edge)
  edge_found edge entry e =
      let w = member_from_find (λ (entry : EdgeEntry). entry.edge == edge) index.edges.items entry e in
      (is.tied.edges_are entry w.0).points ∙ ap (λ n. points_of (links_of made) (Edge n)) (eqb-true entry.edge edge w.1)
      ∙ ap (λ (h : HostState). points_of (links_of h.big) (Edge edge)) seen

  pub edge_few : (edge : ℕ) (entry : EdgeEntry) → find (λ (entry : EdgeEntry). entry.edge == edge) index.edges.items ≡ Some entry
      → length entry.points.items < 2 ^ 32
  edge_few edge entry e = (is.tied.edges_are entry (member_from_find (λ (entry : EdgeEntry). entry.edge == edge) index.edges.items entry e).0).few

  pub no_edge_found : (edge : ℕ) → find (λ (entry : EdgeEntry). entry.edge == edge) index.edges.items ≡ None
      → [] ≡ points_of (links_of host.big) (Edge edge)
  no_edge_found edge e =
      sym (no_points host.big (Edge edge) host_valid
      (ap (λ (h : HostState). has_link h.big (Edge edge)) (sym seen)
      ∙ ap is_some (find_made (λ (entry : EdgeEntry). entry.edge) (λ other. other == edge) index.edges.items
      ∙ ap (option_map (λ (entry : EdgeEntry). entry.edge)) e)))

  abbrev name_at : Name → ℕ
  name_at name = position_or_len (λ (other : Name). is_eq (name_cmp other name)) index.outer

  pub name_found : (name : Name) (entry : NameEntry) → slice_get index.names.items (name_at name) ≡ Some entry
      → entry.points.items ≡ points_of (links_of host.big) (Outer name)
  name_found name entry e =
      let at = At-slice_get (name_at name) index.names.items e in
      let inside = subst (λ n. name_at name < n) is.tied.names_many (At-below at) in
      (is.tied.names_are (name_at name) (get_or index.outer (name_at name) name) entry (At-get_or index.outer (name_at name) name inside) at).points
      ∙ ap (λ n. points_of (links_of made) (Outer n))
      (same_name_from_test (get_or index.outer (name_at name) name) name (passes_at_first (λ (other : Name). is_eq (name_cmp other name)) index.outer name inside))
      ∙ ap (λ (h : HostState). points_of (links_of h.big) (Outer name)) seen

  pub name_few : (name : Name) (entry : NameEntry) → slice_get index.names.items (name_at name) ≡ Some entry → length entry.points.items < 2 ^ 32
  name_few name entry e =
      let at = At-slice_get (name_at name) index.names.items e in
      let inside = subst (λ n. name_at name < n) is.tied.names_many (At-below at) in
      (is.tied.names_are (name_at name) (get_or index.outer (name_at name) name) entry (At-get_or index.outer (name_at name) name inside) at).few

  pub no_name_found : (name : Name) → slice_get index.names.items (name_at name) ≡ None → [] ≡ points_of (links_of host.big) (Outer name)
  no_name_found name e =
      sym (no_points host.big (Outer name) host_valid
      (ap (λ (h : HostState). has_link h.big (Outer name)) (sym seen)
      ∙ false_from_ne_true (is_some (outer_of index.outer name))
      (λ has. let inside = position_inside (λ (other : Name). is_eq (name_cmp other name)) index.outer has in
      let w = At-total index.names.items (name_at name) (subst (λ n. name_at name < n) (sym is.tied.names_many) inside) in
      let bad : None ≡ Some w.0 = sym e ∙ slice_get-At index.names.items w.1 in cc)))

  pub points_ascend : (link : Link) → IsStrictlySortedBy point_cmp (points_of (links_of host.big) link)
  points_ascend link = points_of-ascend (links_of host.big) link (linked host.big host_valid)

  pub nodes_ascend : (control : ℕ) → IsStrictlySortedBy nat_cmp (nodes_with control host.big.nodes)
  nodes_ascend control =
      sorted_from_Ascending {cmp = nat_cmp} (nodes_with control host.big.nodes)
      (Ascending-map (λ (row : NodeRow). row.id) (filter (λ (row : NodeRow). row.control == control) host.big.nodes) (λ x y less. less)
      (Ascending-filter (λ (row : NodeRow). row.control == control) host.big.nodes (Ascending-from_sorted host.big.nodes host_valid.nodes_ascend)))

  pub children_ascend : (place : Place) → IsStrictlySortedBy nat_cmp (children_of (places_of host.big) place)
  children_ascend place = children_up host.big place host_valid
