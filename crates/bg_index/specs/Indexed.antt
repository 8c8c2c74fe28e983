-- How a host is kept: its nodes in a slab, found by number; beside them the children of each place, the points of each
-- link, and the nodes of each control.
use Rattle.std.specs.Prelude.{◌≡◌, ℕ, ◌<◌, ◌^◌, Some, unwrap_or, option_map, List, [], length, map}
use Rattle.std.specs.List.Sorted.{IsStrictlySortedBy}
use Rattle.std.specs.Ordering.{nat_cmp, on}
use Rattle.std.specs.declared.cmp.Ordering.{Ordering}
use Rattle.slab.specs.Slab.{Slab, get}
use Rattle.bg_lists.specs.Lists.{Mem, At}
use Rattle.bg_base.specs.declared.names.Name.{Name}
use Rattle.bg_base.specs.declared.names.Place.TheVariants.{Node, Region}
use Rattle.bg_base.specs.declared.names.Link.TheVariants.{Edge, Outer}
use Rattle.bg_base.specs.declared.big.NodeRow.{NodeRow}
use Rattle.bg_place.specs.declared.graph.Places.{Places}
use Rattle.bg_place.specs.Places.{places_of, children_of}
use Rattle.bg_link.specs.declared.graph.Links.{Links}
use Rattle.bg_link.specs.Links.{links_of, points_of}
use Rattle.bg_rules.specs.Lookups.{nodes_with}
use Rattle.bg_rules.specs.Hosts.{IsHost}
use Rattle.bg_rules.specs.Reaction.{HostState}
use Rattle.bg_index.specs.declared.entries.ControlEntry.{ControlEntry}
use Rattle.bg_index.specs.declared.entries.EdgeEntry.{EdgeEntry}
use Rattle.bg_index.specs.declared.entries.Index.{Index}
use Rattle.bg_index.specs.declared.entries.NameEntry.{NameEntry}
use Rattle.bg_index.specs.declared.entries.NodeEntry.{NodeEntry}
use Rattle.bg_index.specs.declared.entries.RegionEntry.{RegionEntry}
use Rattle.bg_index.specs.declared.entries.Slot.{Slot}

-- ---- in which order entries are kept

abbrev pub slot_cmp : Slot → Slot → Ordering
slot_cmp = on (λ (slot : Slot). slot.node) nat_cmp

abbrev pub edge_cmp : EdgeEntry → EdgeEntry → Ordering
edge_cmp = on (λ (entry : EdgeEntry). entry.edge) nat_cmp

abbrev pub control_cmp : ControlEntry → ControlEntry → Ordering
control_cmp = on (λ (entry : ControlEntry). entry.control) nat_cmp

-- ---- the host that is kept so

-- what stands for a row where none is kept
abbrev pub no_row : NodeRow
no_row = record { id = 0; control = 0; parent = Region 0; links = [] }

-- the row to which the slot leads
abbrev pub row_at : Slab NodeEntry → Slot → NodeRow
row_at nodes slot = unwrap_or (option_map (λ (entry : NodeEntry). entry.row) (get nodes slot.at)) no_row

-- the rows, in the order of the slots
abbrev pub rows_of : Slab NodeEntry → List Slot → List NodeRow
rows_of nodes slots = map (row_at nodes) slots

abbrev pub edges_of : List EdgeEntry → List ℕ
edges_of entries = map (λ (entry : EdgeEntry). entry.edge) entries

abbrev pub host_of : Index → HostState
host_of index =
    record {
      big = record {
        nodes = rows_of index.nodes index.slots.items;
        edges = edges_of index.edges.items;
        sites = [];
        inner = [];
        regions = length index.regions.items;
        outer = index.outer;
      };
      next_node = index.next_node;
      next_edge = index.next_edge;
    }

-- ---- the lists are those of the host

-- the slot leads to an entry whose row has its number, with the children of that node
pub record IsSlotOf (places : Places) (nodes : Slab NodeEntry) (slot : Slot) : Type 0 where
  pub entry : NodeEntry
  pub found : get nodes slot.at ≡ Some entry
  pub number : entry.row.id ≡ slot.node
  pub children : entry.children.items ≡ children_of places (Node slot.node)

abbrev pub AreSlotsOf : Places → Slab NodeEntry → List Slot → Type 0
AreSlotsOf places nodes slots = (slot : Slot) → Mem slot slots → IsSlotOf places nodes slot

-- each region has its children
abbrev pub AreRegions : Places → List RegionEntry → Type 0
AreRegions places regions = (region : ℕ) (entry : RegionEntry) → At entry region regions → entry.children.items ≡ children_of places (Region region)

-- each slot leads to its node, and each region has its children; 32 bits count the regions
pub record AreNested (places : Places) (nodes : Slab NodeEntry) (slots : List Slot) (regions : List RegionEntry) : Type 0 where
  pub slots_ascend : IsStrictlySortedBy slot_cmp slots
  pub kept : AreSlotsOf places nodes slots
  pub regions_are : AreRegions places regions
  pub regions_few : length regions < 2 ^ 32

-- the edge has its points, so few that 32 bits count them
pub record IsEdgeTied (links : Links) (entry : EdgeEntry) : Type 0 where
  pub points : entry.points.items ≡ points_of links (Edge entry.edge)
  pub few : length entry.points.items < 2 ^ 32

-- so has the outer name
pub record IsNameTied (links : Links) (name : Name) (entry : NameEntry) : Type 0 where
  pub points : entry.points.items ≡ points_of links (Outer name)
  pub few : length entry.points.items < 2 ^ 32

-- each edge and each outer name has its points
pub record AreTied (links : Links) (edges : List EdgeEntry) (outer : List Name) (names : List NameEntry) : Type 0 where
  pub edges_are : (entry : EdgeEntry) → Mem entry edges → IsEdgeTied links entry
  pub names_many : length names ≡ length outer
  pub names_are : (i : ℕ) (name : Name) (entry : NameEntry) → At name i outer → At entry i names → IsNameTied links name entry

-- each control that a node has is there, and has its nodes; one that is there may have none
pub record AreSorted (rows : List NodeRow) (controls : List ControlEntry) : Type 0 where
  pub controls_ascend : IsStrictlySortedBy control_cmp controls
  pub controls_are : (entry : ControlEntry) → Mem entry controls → entry.nodes.items ≡ nodes_with entry.control rows
  pub each_there : (row : NodeRow) → Mem row rows → (entry : ControlEntry) × Mem entry controls × (entry.control ≡ row.control)

-- the host is one, and all that is kept beside its rows is what they say
pub record IsIndexOf (host : HostState) (index : Index) : Type 0 where
  pub is_host : IsHost host
  pub nested : AreNested (places_of host.big) index.nodes index.slots.items index.regions.items
  pub tied : AreTied (links_of host.big) index.edges.items host.big.outer index.names.items
  pub sorted : AreSorted host.big.nodes index.controls.items

abbrev pub IsIndex : Index → Type 0
IsIndex index = IsIndexOf (host_of index) index
