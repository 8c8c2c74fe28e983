-- What rewriting a host in place has to leave of each list that is kept beside its rows.
use Rattle.std.specs.Prelude.{◌≡◌, ℕ, ◌<◌, ◌≤◌, ◌^◌, not, Some, List, ◌++◌, length, map, filter}
use Rattle.std.specs.List.Sorted.{IsStrictlySortedBy}
use Rattle.std.specs.Ordering.{nat_cmp}
use Rattle.slab.specs.Slab.{get}
use Rattle.bg_lists.specs.Lists.{Mem, At}
use Rattle.bg_base.specs.declared.names.Name.{Name}
use Rattle.bg_base.specs.declared.names.Place.{Place}
use Rattle.bg_base.specs.declared.names.Place.TheVariants.{Node, Region}
use Rattle.bg_base.specs.declared.names.Link.{Link}
use Rattle.bg_base.specs.declared.names.Link.TheVariants.{Edge, Outer}
use Rattle.bg_base.specs.declared.big.NodeRow.{NodeRow}
use Rattle.bg_base.specs.declared.big.Big.{Big}
use Rattle.bg_place.specs.Places.{places_of, children_of}
use Rattle.bg_link.specs.declared.graph.Point.{Point}
use Rattle.bg_link.specs.Links.{links_of, points_of}
use Rattle.bg_rewriting.specs.Boundaries.{Boundary}
use Rattle.bg_rewriting.specs.Keeping.{ports_on, stays_at}
use Rattle.bg_rules.specs.Lookups.{nodes_with}
use Rattle.bg_rewriting.specs.Touching.{IsDropped}
use Rattle.bg_rules.specs.Instantiation.{is_among}
use Rattle.bg_rules.specs.Reaction.{HostState}
use Rattle.bg_rules.specs.Rules.{RuleParts}
use Rattle.bg_index.specs.declared.entries.ControlEntry.{ControlEntry}
use Rattle.bg_index.specs.declared.entries.EdgeEntry.{EdgeEntry}
use Rattle.bg_index.specs.declared.entries.Index.{Index}
use Rattle.bg_index.specs.declared.entries.NameEntry.{NameEntry}
use Rattle.bg_index.specs.declared.entries.NodeEntry.{NodeEntry}
use Rattle.bg_index.specs.declared.entries.RegionEntry.{RegionEntry}
use Rattle.bg_index.specs.declared.entries.Slot.{Slot}
use Rattle.bg_index.specs.Indexed.{slot_cmp, control_cmp}

-- a list that ascends, of those of the rows that lie in the place
pub record AreChildren (rows : List NodeRow) (place : Place) (list : List ℕ) : Type 0 where
  pub ascend : IsStrictlySortedBy nat_cmp list
  pub all : (row : NodeRow) → Mem row rows → row.parent ≡ place → Mem row.id list
  pub only : (node : ℕ) → Mem node list → (row : NodeRow) × Mem row rows × (row.id ≡ node) × (row.parent ≡ place)

-- the children of a node: those before, where no image lay in it; or made anew
pub data ChildrenFrom (host after : Big) (boundary : Boundary) (node : ℕ) (list : List ℕ) : Type 0 where
  as_before : {was row : NodeRow} → Mem was host.nodes → Mem row after.nodes → was.id ≡ node → row.id ≡ node
      → (Mem (Node node) boundary.places → ⊥) → list ≡ children_of (places_of host) (Node node) → ChildrenFrom host after boundary node list
  made_anew : AreChildren after.nodes (Node node) list → ChildrenFrom host after boundary node list

-- so of a region
pub data RegionFrom (host after : Big) (boundary : Boundary) (region : ℕ) (list : List ℕ) : Type 0 where
  region_before : (Mem (Region region) boundary.places → ⊥) → list ≡ children_of (places_of host) (Region region)
      → RegionFrom host after boundary region list
  region_anew : AreChildren after.nodes (Region region) list → RegionFrom host after boundary region list

-- the points of a link: those before, where nothing of it is gone or new; or those that stay, and then those of the new rows
pub data PointsFrom (host : HostState) (rule : RuleParts) (nodes : List ℕ) (after : Big) (gone : List ℕ) (new : List NodeRow) (link : Link)
    (list : List Point) : Type 0 where
  points_before : ((row : NodeRow) → Mem row host.big.nodes → IsDropped host.big rule nodes row.id → Mem link row.links → ⊥)
      → ((row : NodeRow) → Mem row after.nodes → host.next_node ≤ row.id → Mem link row.links → ⊥)
      → list ≡ points_of (links_of host.big) link → PointsFrom host rule nodes after gone new link list
  kept_and_new : list ≡ filter (stays_at (λ node. not (is_among node gone))) (points_of (links_of host.big) link) ++ ports_on link new
      → PointsFrom host rule nodes after gone new link list

-- each list is as a reaction leaves it: the rows are those that are not gone, some of them moved, and then the new ones
pub record IsStep (host : HostState) (rule : RuleParts) (nodes : List ℕ) (boundary : Boundary) (after : HostState) (gone : List ℕ)
    (move : NodeRow → NodeRow) (new : List NodeRow) (index : Index) : Type 0 where
  pub same_id : (row : NodeRow) → (move row).id ≡ row.id
  pub same_control : (row : NodeRow) → (move row).control ≡ row.control
  pub same_links : (row : NodeRow) → (move row).links ≡ row.links
  pub rows : after.big.nodes ≡ map move (filter (λ (row : NodeRow). not (is_among row.id gone)) host.big.nodes) ++ new
  pub slots_ascend : IsStrictlySortedBy slot_cmp index.slots.items
  pub entries_are : (slot : Slot) → Mem slot index.slots.items → (entry : NodeEntry) × (get index.nodes slot.at ≡ Some entry)
      × (entry.row.id ≡ slot.node) × ChildrenFrom host.big after.big boundary slot.node entry.children.items
  pub regions_are : (region : ℕ) (entry : RegionEntry) → At entry region index.regions.items
      → RegionFrom host.big after.big boundary region entry.children.items
  pub regions_few : length index.regions.items < 2 ^ 32
  pub edges_are : (entry : EdgeEntry) → Mem entry index.edges.items
      → PointsFrom host rule nodes after.big gone new (Edge entry.edge) entry.points.items
  pub edges_few : (entry : EdgeEntry) → Mem entry index.edges.items → length entry.points.items < 2 ^ 32
  pub names_many : length index.names.items ≡ length after.big.outer
  pub names_are : (i : ℕ) (name : Name) (entry : NameEntry) → At name i after.big.outer → At entry i index.names.items
      → PointsFrom host rule nodes after.big gone new (Outer name) entry.points.items
  pub names_few : (entry : NameEntry) → Mem entry index.names.items → length entry.points.items < 2 ^ 32
  pub controls_ascend : IsStrictlySortedBy control_cmp index.controls.items
  pub controls_are : (entry : ControlEntry) → Mem entry index.controls.items
      → entry.nodes.items ≡ filter (λ node. not (is_among node gone)) (nodes_with entry.control host.big.nodes) ++ nodes_with entry.control new
  pub each_there : (row : NodeRow) → Mem row after.big.nodes → (entry : ControlEntry) × Mem entry index.controls.items × (entry.control ≡ row.control)
