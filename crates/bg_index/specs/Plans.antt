-- What a reaction is to leave of an indexed host, made before anything is changed; and a host that was changed so.
use Rattle.std.specs.Prelude.{◌≡◌, ◌⊎◌, ℕ, ◌<◌, ◌≤◌, ◌+◌, ◌*◌, ◌^◌, ◌==◌, not, Some, unwrap_or, option_map, find, List, [], ◌++◌, length, map, filter, vec_len, vec_capacity}
use Rattle.std.specs.List.Sorted.{IsStrictlySortedBy}
use Rattle.std.specs.Ordering.{nat_cmp, on}
use Rattle.std.specs.declared.cmp.Ordering.{Ordering}
use Rattle.slab.specs.Slab.{get, HasRoomFor}
use Rattle.bg_lists.specs.Lists.{Mem, At}
use Rattle.bg_base.specs.declared.names.Name.{Name}
use Rattle.bg_base.specs.declared.names.Place.{Place}
use Rattle.bg_base.specs.declared.names.Place.TheVariants.{Node, Region}
use Rattle.bg_base.specs.declared.names.Link.{Link}
use Rattle.bg_base.specs.declared.names.Link.TheVariants.{Edge, Outer}
use Rattle.bg_base.specs.declared.big.NodeRow.{NodeRow}
use Rattle.bg_base.specs.Elementary.{counted}
use Rattle.bg_base.specs.Limits.{most_host_edges}
use Rattle.bg_base.specs.Products.{has_point}
use Rattle.bg_link.specs.declared.graph.Point.{Point}
use Rattle.bg_link.specs.Links.{links_of, points_of}
use Rattle.bg_rewriting.specs.Boundaries.{Boundary, IsBoundary}
use Rattle.bg_rewriting.specs.Keeping.{ports_on, stays_at}
use Rattle.bg_rules.specs.Lookups.{nodes_with}
use Rattle.bg_rewriting.specs.Making.{AreDropped, AreIdle}
use Rattle.bg_rewriting.specs.Rewriting.{IsRowAfter, late_count}
use Rattle.bg_rewriting.specs.Touching.{IsDropped}
use Rattle.bg_rules.specs.Decomposition.{Occurs}
use Rattle.bg_rules.specs.Hosts.{IsHost}
use Rattle.bg_rules.specs.Instantiation.{is_among}
use Rattle.bg_rules.specs.Limits.{IsWithinLimits}
use Rattle.bg_rules.specs.Reaction.{HostState}
use Rattle.bg_rules.specs.Rules.{RuleParts, IsRule}
use Rattle.bg_index.specs.declared.entries.ControlEntry.{ControlEntry}
use Rattle.bg_index.specs.declared.entries.EdgeEntry.{EdgeEntry}
use Rattle.bg_index.specs.declared.entries.Index.{Index}
use Rattle.bg_index.specs.declared.entries.NameEntry.{NameEntry}
use Rattle.bg_index.specs.declared.entries.NodeEntry.{NodeEntry}
use Rattle.bg_index.specs.declared.entries.RegionEntry.{RegionEntry}
use Rattle.bg_index.specs.declared.entries.Slot.{Slot}
use Rattle.bg_index.specs.declared.plans.Bundle.{Bundle}
use Rattle.bg_index.specs.declared.plans.LinkKey.{LinkKey}
use Rattle.bg_index.specs.declared.plans.LinkKey.TheVariants.{Edge as EdgeKey, Name as NameKey}
use Rattle.bg_index.specs.declared.plans.LinkChanges.{LinkChanges}
use Rattle.bg_index.specs.declared.plans.Move.{Move}
use Rattle.bg_index.specs.declared.plans.Nest.{Nest}
use Rattle.bg_index.specs.declared.plans.NodeChanges.{NodeChanges}
use Rattle.bg_index.specs.declared.plans.Plan.{Plan}
use Rattle.bg_index.specs.declared.reading.Reading.{Reading}
use Rattle.bg_index.specs.Indexed.{slot_cmp, control_cmp, rows_of, edges_of}
use Rattle.bg_index.specs.PortNodes.{HasRoomBeside}
use Rattle.bg_index.specs.Readings.{IsReadingAt}
use Rattle.bg_index.specs.Steps.{AreChildren}

-- ---- where a plan is made

-- a rule occurs at these nodes of a host, and that was read there
pub record IsRead (host : HostState) (rule : RuleParts) (nodes : List ℕ) (reading : Reading) : Type 0 where
  pub is_host : IsHost host
  pub is_rule : IsRule rule
  pub occurs : Occurs host.big rule.redex nodes
  pub reads : IsReadingAt host.big rule nodes reading

-- ---- the rows that are to be there

abbrev pub move_cmp : Move → Move → Ordering
move_cmp = on (λ (move : Move). move.node) nat_cmp

-- the row, in the place to which its node moves
abbrev pub moved : List Move → NodeRow → NodeRow
moved moves row =
    record row { parent = unwrap_or (option_map (λ (move : Move). move.place) (find (λ (move : Move). move.node == row.id) moves)) row.parent }

-- the rows that are not gone, moved, and then the new ones
abbrev pub rows_after : List NodeRow → List ℕ → List Move → List NodeRow → List NodeRow
rows_after rows gone moves new = map (moved moves) (filter (λ (row : NodeRow). not (is_among row.id gone)) rows) ++ new

-- new rows, numbered in a row, each one that is due
pub record AreNewRows (host : HostState) (rule : RuleParts) (nodes : List ℕ) (boundary : Boundary) (new : List NodeRow) : Type 0 where
  pub numbers : map (λ (row : NodeRow). row.id) new ≡ counted host.next_node (length rule.reactum.nodes + late_count boundary.parts [] rule.map)
  pub are : (row : NodeRow) → Mem row new → IsRowAfter host rule nodes boundary row

-- moves of what lay in the images and is not dropped: by them each row that is not dropped is one that is due
pub record AreMoves (host : HostState) (rule : RuleParts) (nodes : List ℕ) (boundary : Boundary) (moves : List Move) : Type 0 where
  pub ascend : IsStrictlySortedBy move_cmp moves
  pub each : (move : Move) → Mem move moves → (row : NodeRow) × (image : ℕ) × Mem row host.big.nodes × (row.id ≡ move.node)
      × (row.parent ≡ Node image) × Mem image nodes × (IsDropped host.big rule nodes row.id → ⊥)
  pub all : (row : NodeRow) (image : ℕ) → Mem row host.big.nodes → row.parent ≡ Node image → Mem image nodes
      → (IsDropped host.big rule nodes row.id → ⊥) → (move : Move) × Mem move moves × (move.node ≡ row.id)
  pub due : (row : NodeRow) → Mem row host.big.nodes → (IsDropped host.big rule nodes row.id → ⊥)
      → IsRowAfter host rule nodes boundary (moved moves row)

-- each place in which an image lay is there with what is to lie in it, and no other place
pub record AreNests (boundary : Boundary) (rows : List NodeRow) (nests : List Nest) : Type 0 where
  pub children : (nest : Nest) → Mem nest nests → AreChildren rows nest.place nest.children.items
  pub round : (nest : Nest) → Mem nest nests → Mem nest.place boundary.places
  pub all : (place : Place) → Mem place boundary.places → (nest : Nest) × Mem nest nests × (nest.place ≡ place)

-- each new node has what is to lie in it
abbrev pub AreFilled : List NodeRow → List NodeEntry → Type 0
AreFilled rows entries = (entry : NodeEntry) → Mem entry entries → AreChildren rows (Node entry.row.id) entry.children.items

-- ---- the links that are to be there

-- the edges of the reactum that are used, with their new numbers, and the points of the new rows on them
pub record AreUsed (host : HostState) (rule : RuleParts) (new : List NodeRow) (used : List EdgeEntry) : Type 0 where
  pub edges : edges_of used ≡ map (λ own. host.next_edge + own) (filter (λ own. has_point rule.reactum (Edge own)) rule.reactum.edges)
  pub points : (entry : EdgeEntry) → Mem entry used → entry.points.items ≡ ports_on (Edge entry.edge) new
  pub few : (entry : EdgeEntry) → Mem entry used → length entry.points.items < 2 ^ 32

-- the position of a key among all keys
abbrev pub key_rank : LinkKey → ℕ
key_rank (EdgeKey edge) = edge * 2
key_rank (NameKey at) = at * 2 + 1

abbrev pub key_cmp : LinkKey → LinkKey → Ordering
key_cmp = on key_rank nat_cmp

abbrev pub bundle_cmp : Bundle → Bundle → Ordering
bundle_cmp = on (λ (bundle : Bundle). bundle.key) key_cmp

-- the key is that of the link, where these are the outer names
abbrev pub IsKeyOf : List Name → LinkKey → Link → Type 0
IsKeyOf outer (EdgeKey edge) link = link ≡ Edge edge
IsKeyOf outer (NameKey at) link = (name : Name) × At name at outer × (link ≡ Outer name)

-- the points that are not on nodes that are gone
abbrev pub points_left : List ℕ → List Point → List Point
points_left gone points = filter (stays_at (λ node. not (is_among node gone))) points

-- the points of a link of the host that stay, and then those of the new rows
abbrev pub points_after : HostState → List ℕ → List NodeRow → Link → List Point
points_after host gone new link = points_left gone (points_of (links_of host.big) link) ++ ports_on link new

-- each link of the host that a node which is dropped or a new one is tied to is there once, unless it becomes idle, with the
-- points of the new rows on it; and no other link
pub record AreBundles (host : HostState) (rule : RuleParts) (nodes : List ℕ) (gone idle : List ℕ) (new : List NodeRow) (bundles : List Bundle) : Type 0 where
  pub ascend : IsStrictlySortedBy bundle_cmp bundles
  pub arriving : (bundle : Bundle) (link : Link) → Mem bundle bundles → IsKeyOf host.big.outer bundle.key link
      → bundle.arriving.items ≡ ports_on link new
  pub few : (bundle : Bundle) (link : Link) → Mem bundle bundles → IsKeyOf host.big.outer bundle.key link
      → length (points_of (links_of host.big) link) + length bundle.arriving.items < 2 ^ 32
  pub lost : (row : NodeRow) (link : Link) → Mem row host.big.nodes → IsDropped host.big rule nodes row.id → Mem link row.links
      → ((edge : ℕ) × (link ≡ Edge edge) × Mem edge idle) ⊎ ((bundle : Bundle) × Mem bundle bundles × IsKeyOf host.big.outer bundle.key link)
  pub got : (row : NodeRow) (link : Link) → Mem row new → Mem link row.links
      → ((edge : ℕ) × (link ≡ Edge edge) × (host.next_edge ≤ edge)) ⊎ ((bundle : Bundle) × Mem bundle bundles × IsKeyOf host.big.outer bundle.key link)
  pub touched : (bundle : Bundle) → Mem bundle bundles → (link : Link) × IsKeyOf host.big.outer bundle.key link
      × (((row : NodeRow) × Mem row host.big.nodes × IsDropped host.big rule nodes row.id × Mem link row.links)
      ⊎ ((row : NodeRow) × Mem row new × Mem link row.links))

-- ---- the plan

abbrev pub new_rows : Plan → List NodeRow
new_rows plan = map (λ (entry : NodeEntry). entry.row) plan.entries.items

-- the host as it is planned
abbrev pub host_planned : HostState → Plan → HostState
host_planned host plan =
    record {
      big = record {
        nodes = rows_after host.big.nodes plan.gone.items plan.moves.items (new_rows plan);
        edges = filter (λ edge. not (is_among edge plan.idle.items)) host.big.edges ++ edges_of plan.used.items;
        sites = [];
        inner = [];
        regions = host.big.regions;
        outer = host.big.outer;
      };
      next_node = plan.next_node;
      next_edge = plan.next_edge;
    }

-- what a reaction by the rule is to leave
pub record IsPlan (host : HostState) (rule : RuleParts) (nodes : List ℕ) (boundary : Boundary) (plan : Plan) : Type 0 where
  pub gone_ascends : IsStrictlySortedBy nat_cmp plan.gone.items
  pub gone_are : AreDropped host.big rule nodes plan.gone.items
  pub moves_are : AreMoves host rule nodes boundary plan.moves.items
  pub rows_are : AreNewRows host rule nodes boundary (new_rows plan)
  pub filled : AreFilled (rows_after host.big.nodes plan.gone.items plan.moves.items (new_rows plan)) plan.entries.items
  pub nests_are : AreNests boundary (rows_after host.big.nodes plan.gone.items plan.moves.items (new_rows plan)) plan.nests.items
  pub idle_ascends : IsStrictlySortedBy nat_cmp plan.idle.items
  pub idle_are : AreIdle host.big rule nodes boundary plan.idle.items
  pub used_are : AreUsed host rule (new_rows plan) plan.used.items
  pub bundles_are : AreBundles host rule nodes plan.gone.items plan.idle.items (new_rows plan) plan.bundles.items
  pub next_node : plan.next_node ≡ host.next_node + length rule.reactum.nodes + late_count boundary.parts [] rule.map
  pub next_edge : plan.next_edge ≡ host.next_edge + length rule.reactum.edges

-- ---- the change

-- the edges of these bundles have room for the points that arrive
abbrev pub EdgesHaveRoom : List EdgeEntry → List Bundle → Type 0
EdgesHaveRoom edges bundles =
    (entry : EdgeEntry) (bundle : Bundle) → Mem entry edges → Mem bundle bundles → bundle.key ≡ EdgeKey entry.edge
    → HasRoomBeside entry.points bundle.arriving.items

-- so have the outer names
abbrev pub NamesHaveRoom : List NameEntry → List Bundle → Type 0
NamesHaveRoom names bundles =
    (at : ℕ) (entry : NameEntry) (bundle : Bundle) → At entry at names → Mem bundle bundles → bundle.key ≡ NameKey at
    → HasRoomBeside entry.points bundle.arriving.items

-- there is room for all that is to be put behind, and 32 bits tell where in the slab it goes
pub record HasRoom (index : Index) (plan : Plan) : Type 0 where
  pub nodes : HasRoomFor index.nodes (length plan.entries.items)
  pub few : index.nodes.capacity ≤ 2 ^ 32
  pub slots : vec_len index.slots + length plan.entries.items ≤ vec_capacity index.slots
  pub edges : vec_len index.edges + length plan.used.items ≤ vec_capacity index.edges
  pub controls : (entry : NodeEntry) → Mem entry plan.entries.items → (control : ControlEntry) × Mem control index.controls.items
      × (control.control ≡ entry.row.control)
      × (vec_len control.nodes + length (nodes_with entry.row.control (new_rows plan)) ≤ vec_capacity control.nodes)
  pub edge_points : EdgesHaveRoom index.edges.items plan.bundles.items
  pub name_points : NamesHaveRoom index.names.items plan.bundles.items

-- the children of a place: those that are planned for it, or those before where none are
pub data ChildrenSet (plan : Plan) (place : Place) (before list : List ℕ) : Type 0 where
  set_children : {nest : Nest} → Mem nest plan.nests.items → nest.place ≡ place → list ≡ nest.children.items → ChildrenSet plan place before list
  same_children : ((nest : Nest) → Mem nest plan.nests.items → nest.place ≡ place → ⊥) → list ≡ before → ChildrenSet plan place before list

-- the points of a link: those that stay and then those that are planned to arrive, or those before where none are planned
pub data PointsSet (plan : Plan) (key : LinkKey) (before list : List Point) : Type 0 where
  set_points : {bundle : Bundle} → Mem bundle plan.bundles.items → bundle.key ≡ key → list ≡ points_left plan.gone.items before ++ bundle.arriving.items
      → PointsSet plan key before list
  same_points : ((bundle : Bundle) → Mem bundle plan.bundles.items → bundle.key ≡ key → ⊥) → list ≡ before → PointsSet plan key before list

-- a node that stood before, with what lies in it
pub record IsStaying (old : Index) (plan : Plan) (slot : Slot) (list : List ℕ) : Type 0 where
  pub was : Slot
  pub stood : Mem was old.slots.items
  pub number : was.node ≡ slot.node
  pub entry : NodeEntry
  pub found : get old.nodes was.at ≡ Some entry
  pub children : ChildrenSet plan (Node slot.node) entry.children.items list

-- an edge that stood before, with its points
pub record IsStayingEdge (old : Index) (plan : Plan) (edge : ℕ) (list : List Point) : Type 0 where
  pub was : EdgeEntry
  pub stood : Mem was old.edges.items
  pub number : was.edge ≡ edge
  pub points : PointsSet plan (EdgeKey edge) was.points.items list

-- the index is as the plan says
pub record IsCarriedOut (old : Index) (plan : Plan) (new : Index) : Type 0 where
  pub rows : rows_of new.nodes new.slots.items ≡ rows_after (rows_of old.nodes old.slots.items) plan.gone.items plan.moves.items (new_rows plan)
  pub slots_ascend : IsStrictlySortedBy slot_cmp new.slots.items
  pub entries_are : (slot : Slot) → Mem slot new.slots.items → (entry : NodeEntry) × (get new.nodes slot.at ≡ Some entry) × (entry.row.id ≡ slot.node)
      × (IsStaying old plan slot entry.children.items
      ⊎ ((made : NodeEntry) × Mem made plan.entries.items × (made.row.id ≡ slot.node) × (entry.children.items ≡ made.children.items)))
  pub regions_many : length new.regions.items ≡ length old.regions.items
  pub regions_are : (region : ℕ) (was entry : RegionEntry) → At was region old.regions.items → At entry region new.regions.items
      → ChildrenSet plan (Region region) was.children.items entry.children.items
  pub edges : edges_of new.edges.items ≡ filter (λ edge. not (is_among edge plan.idle.items)) (edges_of old.edges.items) ++ edges_of plan.used.items
  pub edges_are : (entry : EdgeEntry) → Mem entry new.edges.items → IsStayingEdge old plan entry.edge entry.points.items
      ⊎ ((made : EdgeEntry) × Mem made plan.used.items × (made.edge ≡ entry.edge) × (entry.points.items ≡ made.points.items))
  pub outer : new.outer ≡ old.outer
  pub names_many : length new.names.items ≡ length old.names.items
  pub names_are : (at : ℕ) (was entry : NameEntry) → At was at old.names.items → At entry at new.names.items
      → PointsSet plan (NameKey at) was.points.items entry.points.items
  pub controls_ascend : IsStrictlySortedBy control_cmp new.controls.items
  pub controls_are : (entry : ControlEntry) → Mem entry new.controls.items → entry.nodes.items
      ≡ filter (λ node. not (is_among node plan.gone.items)) (nodes_with entry.control (rows_of old.nodes old.slots.items))
      ++ nodes_with entry.control (new_rows plan)
  pub each_there : (row : NodeRow) → Mem row (rows_of new.nodes new.slots.items)
      → (entry : ControlEntry) × Mem entry new.controls.items × (entry.control ≡ row.control)
  pub next_node : new.next_node ≡ plan.next_node
  pub next_edge : new.next_edge ≡ plan.next_edge

-- ---- the parts of a plan

-- what goes, moves and comes of the nodes
pub record AreNodeChanges (host : HostState) (rule : RuleParts) (nodes : List ℕ) (boundary : Boundary) (changes : NodeChanges) : Type 0 where
  pub gone_ascends : IsStrictlySortedBy nat_cmp changes.gone.items
  pub gone_are : AreDropped host.big rule nodes changes.gone.items
  pub moves_are : AreMoves host rule nodes boundary changes.moves.items
  pub rows_are : AreNewRows host rule nodes boundary changes.new.items

-- what goes, comes and changes of the links; the edges after are within their limit
pub record AreLinkChanges (host : HostState) (rule : RuleParts) (nodes : List ℕ) (boundary : Boundary) (gone : List ℕ) (new : List NodeRow)
    (changes : LinkChanges) : Type 0 where
  pub idle_ascends : IsStrictlySortedBy nat_cmp changes.idle.items
  pub idle_are : AreIdle host.big rule nodes boundary changes.idle.items
  pub used_are : AreUsed host rule new changes.used.items
  pub bundles_are : AreBundles host rule nodes gone changes.idle.items new changes.bundles.items
  pub few_edges : length host.big.edges + length changes.used.items ≤ most_host_edges + length changes.idle.items

-- a plan of the reaction, to a host within the limits
pub record IsReactionPlan (host : HostState) (rule : RuleParts) (nodes : List ℕ) (plan : Plan) : Type 0 where
  pub boundary : Boundary
  pub is_boundary : IsBoundary host.big rule nodes boundary
  pub is_plan : IsPlan host rule nodes boundary plan
  pub within : IsWithinLimits (host_planned host plan)
