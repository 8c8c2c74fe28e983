-- How a plan is carried out, list by list.
use Rattle.std.specs.Prelude.{◌≡◌, ◌⊎◌, ℕ, ◌<◌, ◌≤◌, ◌+◌, not, false, Some, List, ◌++◌, length, map, filter, vec_len, vec_capacity}
use Rattle.std.specs.List.Sorted.{IsStrictlySortedBy}
use Rattle.std.specs.Ordering.{nat_cmp, on}
use Rattle.std.specs.declared.cmp.Ordering.{Ordering}
use Rattle.slab.specs.Slab.{Slab, get}
use Rattle.bg_lists.specs.Lists.{Mem, At}
use Rattle.bg_base.specs.declared.names.Place.{Place}
use Rattle.bg_base.specs.declared.names.Place.TheVariants.{Node, Region}
use Rattle.bg_base.specs.declared.big.NodeRow.{NodeRow}
use Rattle.bg_link.specs.declared.graph.Point.{Point}
use Rattle.bg_link.specs.Rows.{point_cmp}
use Rattle.bg_rules.specs.Lookups.{nodes_with}
use Rattle.bg_rules.specs.Instantiation.{is_among}
use Rattle.bg_index.specs.declared.entries.ControlEntry.{ControlEntry}
use Rattle.bg_index.specs.declared.entries.EdgeEntry.{EdgeEntry}
use Rattle.bg_index.specs.declared.entries.Index.{Index}
use Rattle.bg_index.specs.declared.entries.NameEntry.{NameEntry}
use Rattle.bg_index.specs.declared.entries.NodeEntry.{NodeEntry}
use Rattle.bg_index.specs.declared.entries.RegionEntry.{RegionEntry}
use Rattle.bg_index.specs.declared.entries.Slot.{Slot}
use Rattle.bg_index.specs.declared.plans.Bundle.{Bundle}
use Rattle.bg_index.specs.declared.plans.LinkKey.{LinkKey}
use Rattle.bg_index.specs.declared.plans.LinkKey.TheVariants.{Edge as EdgeKey, Name as NameKey}
use Rattle.bg_index.specs.declared.plans.Move.{Move}
use Rattle.bg_index.specs.declared.plans.Nest.{Nest}
use Rattle.bg_index.specs.declared.plans.Plan.{Plan}
use Rattle.bg_index.specs.Indexed.{slot_cmp, rows_of, edges_of}
use Rattle.bg_index.specs.Plans.{bundle_cmp, move_cmp, moved, points_left, rows_after}
use Rattle.bg_index.specs.PortNodes.{HasRoomBeside, KeptPoints, port_nodes}

-- ---- what the change asks of a plan

abbrev pub entry_cmp : NodeEntry → NodeEntry → Ordering
entry_cmp = on (λ (entry : NodeEntry). entry.row.id) nat_cmp

-- these points ascend, and those that arrive are ports of nodes above theirs
pub record AreBelow (before arriving : List Point) : Type 0 where
  pub ascend : IsStrictlySortedBy point_cmp before
  pub above : (node other : ℕ) → Mem node (port_nodes before) → Mem other (port_nodes arriving) → node < other

-- its lists of numbers and links ascend, and its new nodes stand above all that are there
pub record IsReady (index : Index) (plan : Plan) : Type 0 where
  pub gone_ascends : IsStrictlySortedBy nat_cmp plan.gone.items
  pub idle_ascends : IsStrictlySortedBy nat_cmp plan.idle.items
  pub moves_ascend : IsStrictlySortedBy move_cmp plan.moves.items
  pub new_ascend : IsStrictlySortedBy entry_cmp plan.entries.items
  pub above : (slot : Slot) (entry : NodeEntry) → Mem slot index.slots.items → Mem entry plan.entries.items → slot.node < entry.row.id
  pub bundles_ascend : IsStrictlySortedBy bundle_cmp plan.bundles.items
  pub edge_points : (entry : EdgeEntry) (bundle : Bundle) → Mem entry index.edges.items → Mem bundle plan.bundles.items → bundle.key ≡ EdgeKey entry.edge
      → AreBelow entry.points.items bundle.arriving.items
  pub name_points : (at : ℕ) (entry : NameEntry) (bundle : Bundle) → At entry at index.names.items → Mem bundle plan.bundles.items → bundle.key ≡ NameKey at
      → AreBelow entry.points.items bundle.arriving.items

-- ---- lists beside lists

-- the items have the keys of those before, and each is as the relation says of one of them
pub record AreFrom {X : Type 0} (key : X → ℕ) (R : X → X → Type 0) (old new : List X) : Type 0 where
  pub keys : map key new ≡ map key old
  pub each : (x : X) → Mem x new → (was : X) × Mem was old × (key was ≡ key x) × R was x

-- the item at each place is as the relation says of the one before
pub record AreBeside {X : Type 0} (R : ℕ → X → X → Type 0) (old new : List X) : Type 0 where
  pub many : length new ≡ length old
  pub each : (i : ℕ) (was x : X) → At was i old → At x i new → R i was x

-- ---- nodes

-- the slot leads to an entry with its number
pub record IsHeld (nodes : Slab NodeEntry) (slot : Slot) : Type 0 where
  pub entry : NodeEntry
  pub found : get nodes slot.at ≡ Some entry
  pub number : entry.row.id ≡ slot.node

-- slots that ascend, each of which does
pub record AreHeld (nodes : Slab NodeEntry) (slots : List Slot) : Type 0 where
  pub ascend : IsStrictlySortedBy slot_cmp slots
  pub held : (slot : Slot) → Mem slot slots → IsHeld nodes slot

-- what the slots of nodes that are not gone lead to is left
abbrev pub AreLeft : Slab NodeEntry → List Slot → List ℕ → Slab NodeEntry → Type 0
AreLeft old slots gone new = (slot : Slot) → Mem slot slots → is_among slot.node gone ≡ false → get new slot.at ≡ get old slot.at

-- each slot leads to what is as the relation says of what it led to
abbrev pub LeadOn : (NodeEntry → NodeEntry → Type 0) → Slab NodeEntry → Slab NodeEntry → List Slot → Type 0
LeadOn R old new slots =
    (slot : Slot) → Mem slot slots → (entry : NodeEntry) → get old slot.at ≡ Some entry → (after : NodeEntry) × (get new slot.at ≡ Some after) × R entry after

-- the node has that parent, where it is this one
pub record IsPut (node : ℕ) (place : Place) (entry after : NodeEntry) : Type 0 where
  pub this : entry.row.id ≡ node → after.row ≡ record entry.row { parent = place }
  pub other : (entry.row.id ≡ node → ⊥) → after.row ≡ entry.row
  pub children : after.children.items ≡ entry.children.items

-- the node has moved
pub record IsMoved (moves : List Move) (entry after : NodeEntry) : Type 0 where
  pub row : after.row ≡ moved moves entry.row
  pub children : after.children.items ≡ entry.children.items

-- the children of a place are those of a nest there, or those before where none is
pub data IsNested (nests : List Nest) (place : Place) (before list : List ℕ) : Type 0 where
  by_nest : {nest : Nest} → Mem nest nests → nest.place ≡ place → list ≡ nest.children.items → IsNested nests place before list
  by_none : ((nest : Nest) → Mem nest nests → nest.place ≡ place → ⊥) → list ≡ before → IsNested nests place before list

-- so of a node
pub record IsFilled (nests : List Nest) (entry after : NodeEntry) : Type 0 where
  pub row : after.row ≡ entry.row
  pub children : IsNested nests (Node entry.row.id) entry.children.items after.children.items

-- so of a region
abbrev pub IsRegionFilled : List Nest → ℕ → RegionEntry → RegionEntry → Type 0
IsRegionFilled nests region was entry = IsNested nests (Region region) was.children.items entry.children.items

-- entries were put behind the others
pub record ArePushed (nodes : Slab NodeEntry) (slots : List Slot) (entries : List NodeEntry) (new_nodes : Slab NodeEntry) (new_slots : List Slot) : Type 0 where
  pub held : AreHeld new_nodes new_slots
  pub rows : rows_of new_nodes new_slots ≡ rows_of nodes slots ++ map (λ (entry : NodeEntry). entry.row) entries
  pub kept : (slot : Slot) → Mem slot new_slots → (Mem slot slots × (get new_nodes slot.at ≡ get nodes slot.at))
      ⊎ ((made : NodeEntry) × Mem made entries × (get new_nodes slot.at ≡ Some made))

-- a node that stood before, with what lies in it
pub record IsNodeLeft (nodes : Slab NodeEntry) (slots : List Slot) (nests : List Nest) (slot : Slot) (list : List ℕ) : Type 0 where
  pub was : Slot
  pub stood : Mem was slots
  pub number : was.node ≡ slot.node
  pub entry : NodeEntry
  pub found : get nodes was.at ≡ Some entry
  pub children : IsNested nests (Node slot.node) entry.children.items list

-- nodes were taken out, moved, given other children, and put behind
pub record AreNodesAfter (nodes : Slab NodeEntry) (slots : List Slot) (gone : List ℕ) (moves : List Move) (nests : List Nest) (entries : List NodeEntry)
    (new_nodes : Slab NodeEntry) (new_slots : List Slot) : Type 0 where
  pub rows : rows_of new_nodes new_slots ≡ rows_after (rows_of nodes slots) gone moves (map (λ (entry : NodeEntry). entry.row) entries)
  pub ascend : IsStrictlySortedBy slot_cmp new_slots
  pub are : (slot : Slot) → Mem slot new_slots → (entry : NodeEntry) × (get new_nodes slot.at ≡ Some entry) × (entry.row.id ≡ slot.node)
      × (IsNodeLeft nodes slots nests slot entry.children.items
      ⊎ ((made : NodeEntry) × Mem made entries × (made.row.id ≡ slot.node) × (entry.children.items ≡ made.children.items)))

-- ---- controls

abbrev pub control_key : ControlEntry → ℕ
control_key entry = entry.control

-- some of those that are gone are left out of a list that ascends, and nothing else
pub record IsThinned (gone old new : List ℕ) : Type 0 where
  pub rest : filter (λ node. not (is_among node gone)) new ≡ filter (λ node. not (is_among node gone)) old
  pub fewer : (node : ℕ) → Mem node new → Mem node old
  pub ascends : IsStrictlySortedBy nat_cmp old → IsStrictlySortedBy nat_cmp new

-- so of the nodes of a control; and these are left out
pub record IsLessened (gone done : List ℕ) (was entry : ControlEntry) : Type 0 where
  pub thinned : IsThinned gone was.nodes.items entry.nodes.items
  pub out : (node : ℕ) → Mem node done → Mem node entry.nodes.items → ⊥
  pub capacity : vec_capacity entry.nodes ≡ vec_capacity was.nodes

-- a node of one control is left out
pub record IsWithout (gone : List ℕ) (control node : ℕ) (was entry : ControlEntry) : Type 0 where
  pub thinned : IsThinned gone was.nodes.items entry.nodes.items
  pub out : entry.control ≡ control → Mem node entry.nodes.items → ⊥
  pub capacity : vec_capacity entry.nodes ≡ vec_capacity was.nodes

-- those that are gone are left out
pub record IsTakenOut (gone : List ℕ) (was entry : ControlEntry) : Type 0 where
  pub nodes : entry.nodes.items ≡ filter (λ node. not (is_among node gone)) was.nodes.items
  pub capacity : vec_capacity entry.nodes ≡ vec_capacity was.nodes

-- the nodes of the rows with the control are put behind
pub record HasMore (rows : List NodeRow) (was entry : ControlEntry) : Type 0 where
  pub nodes : entry.nodes.items ≡ was.nodes.items ++ nodes_with entry.control rows
  pub capacity : vec_capacity entry.nodes ≡ vec_capacity was.nodes

-- a control with room for so many more nodes
pub record IsRoomy (control more : ℕ) (entry : ControlEntry) : Type 0 where
  pub named : entry.control ≡ control
  pub room : vec_len entry.nodes + more ≤ vec_capacity entry.nodes

-- such a control is there
abbrev pub HasRoomy : ℕ → ℕ → List ControlEntry → Type 0
HasRoomy control more controls = (entry : ControlEntry) × Mem entry controls × IsRoomy control more entry

-- each control of the rows is there, with room for its nodes among all of these
abbrev pub AreRoomy : List NodeRow → List NodeRow → List ControlEntry → Type 0
AreRoomy rows all controls = (row : NodeRow) → Mem row rows → HasRoomy row.control (length (nodes_with row.control all)) controls

-- ---- links

abbrev pub edge_key : EdgeEntry → ℕ
edge_key entry = entry.edge

-- points that ascend can take those that arrive: these are ports of nodes above theirs, and there is room for them
pub record CanTake (kept : KeptPoints) (arriving : List Point) : Type 0 where
  pub below : AreBelow kept.items arriving
  pub room : HasRoomBeside kept arriving

-- so can the edges of these bundles
abbrev pub EdgesCanTake : List EdgeEntry → List Bundle → Type 0
EdgesCanTake edges bundles =
    (entry : EdgeEntry) (bundle : Bundle) → Mem entry edges → Mem bundle bundles → bundle.key ≡ EdgeKey entry.edge
    → CanTake entry.points bundle.arriving.items

-- and the outer names
abbrev pub NamesCanTake : List NameEntry → List Bundle → Type 0
NamesCanTake names bundles =
    (at : ℕ) (entry : NameEntry) (bundle : Bundle) → At entry at names → Mem bundle bundles → bundle.key ≡ NameKey at
    → CanTake entry.points bundle.arriving.items

-- the points of a link are those that stay and then those of a bundle for it, or those before where none is
pub data IsBundled (gone : List ℕ) (bundles : List Bundle) (key : LinkKey) (was kept : KeptPoints) : Type 0 where
  by_bundle : {bundle : Bundle} → Mem bundle bundles → bundle.key ≡ key → kept.items ≡ points_left gone was.items ++ bundle.arriving.items
      → IsBundled gone bundles key was kept
  by_no_bundle : ((bundle : Bundle) → Mem bundle bundles → bundle.key ≡ key → ⊥) → kept ≡ was → IsBundled gone bundles key was kept

abbrev pub IsEdgeBundled : List ℕ → List Bundle → EdgeEntry → EdgeEntry → Type 0
IsEdgeBundled gone bundles was entry = IsBundled gone bundles (EdgeKey entry.edge) was.points entry.points

abbrev pub IsNameBundled : List ℕ → List Bundle → ℕ → NameEntry → NameEntry → Type 0
IsNameBundled gone bundles at was entry = IsBundled gone bundles (NameKey at) was.points entry.points

-- an edge that stood before, with its points
pub record IsEdgeLeft (old : List EdgeEntry) (gone : List ℕ) (bundles : List Bundle) (entry : EdgeEntry) : Type 0 where
  pub was : EdgeEntry
  pub stood : Mem was old
  pub number : was.edge ≡ entry.edge
  pub points : IsEdgeBundled gone bundles was entry

-- edges were taken out, given other points, and put behind
pub record AreEdgesAfter (old : List EdgeEntry) (idle gone : List ℕ) (bundles : List Bundle) (used new : List EdgeEntry) : Type 0 where
  pub edges : edges_of new ≡ filter (λ edge. not (is_among edge idle)) (edges_of old) ++ edges_of used
  pub are : (entry : EdgeEntry) → Mem entry new → IsEdgeLeft old gone bundles entry ⊎ Mem entry used

-- ---- room

-- each control that was there is, with the same nodes and as much room
abbrev pub AreRoomier : List ControlEntry → List ControlEntry → Type 0
AreRoomier old new = (was : ControlEntry) → Mem was old → (entry : ControlEntry) × Mem entry new × (entry.control ≡ was.control)
    × (vec_len entry.nodes ≡ vec_len was.nodes) × (vec_capacity was.nodes ≤ vec_capacity entry.nodes)

-- so of one control
pub record IsRoomier (was entry : ControlEntry) : Type 0 where
  pub nodes : entry.nodes.items ≡ was.nodes.items
  pub count : vec_len entry.nodes ≡ vec_len was.nodes
  pub capacity : vec_capacity was.nodes ≤ vec_capacity entry.nodes

-- points that are as before, with as much room
pub record ArePointsRoomier (was kept : KeptPoints) : Type 0 where
  pub items : kept.items ≡ was.items
  pub points : was.point_capacity ≤ kept.point_capacity
  pub nodes : was.node_capacity ≤ kept.node_capacity

-- so of an edge
abbrev pub IsEdgeRoomier : EdgeEntry → EdgeEntry → Type 0
IsEdgeRoomier was entry = ArePointsRoomier was.points entry.points

-- so of an outer name
abbrev pub IsNameRoomier : ℕ → NameEntry → NameEntry → Type 0
IsNameRoomier at was entry = ArePointsRoomier was.points entry.points
