-- What a reaction touches: the nodes that are gone, and those that are new or changed.
use Rattle.std.specs.Prelude.{◌≡◌, ◌↔◌, ◌⊎◌, ℕ, ◌≤◌, List}
use Rattle.std.specs.List.Sorted.{IsStrictlySortedBy}
use Rattle.std.specs.Ordering.{nat_cmp}
use Rattle.bg_lists.specs.Lists.{Mem, At}
use Rattle.bg_base.specs.declared.names.Place.TheVariants.{Node}
use Rattle.bg_base.specs.declared.names.Name.{Name}
use Rattle.bg_base.specs.declared.names.Link.{Link}
use Rattle.bg_base.specs.declared.names.Link.TheVariants.{Edge, Outer}
use Rattle.bg_base.specs.declared.big.NodeRow.{NodeRow}
use Rattle.bg_base.specs.declared.big.Big.{Big}
use Rattle.bg_base.specs.Translation.{node_numbers}
use Rattle.bg_place.specs.Places.{places_of, children_of}
use Rattle.bg_link.specs.Links.{links_of, points_of}
use Rattle.bg_rules.specs.LocalConditions.{image_of}
use Rattle.bg_rules.specs.Reaction.{HostState}
use Rattle.bg_rules.specs.Rules.{RuleParts}
use Rattle.bg_rewriting.specs.Boundaries.{IsBelow, Boundary}

-- ---- said of the host before and the host after

-- the node was there before, and is not there after
pub record IsGone (before after : Big) (node : ℕ) : Type 0 where
  pub was : Mem node (node_numbers before.nodes)
  pub is_not : Mem node (node_numbers after.nodes) → ⊥

-- the row is there after, and it is new, or differs from before; or its children, or the points of one of its links do
pub data IsChangedRow (before after : Big) (row : NodeRow) : Type 0 where
  is_other : (Mem row before.nodes → ⊥) → IsChangedRow before after row
  has_others : (children_of (places_of before) (Node row.id) ≡ children_of (places_of after) (Node row.id) → ⊥) → IsChangedRow before after row
  is_tied : {link : Link} → Mem link row.links → (points_of (links_of before) link ≡ points_of (links_of after) link → ⊥)
      → IsChangedRow before after row

-- the node is there after, and its row is changed
pub record IsChanged (before after : Big) (node : ℕ) : Type 0 where
  pub row : NodeRow
  pub is : Mem row after.nodes
  pub number : row.id ≡ node
  pub changed : IsChangedRow before after row

-- the node is there before and after with one row, the same children, and the same points of each of its links
pub record IsUntouched (before after : Big) (node : ℕ) : Type 0 where
  pub row : NodeRow
  pub number : row.id ≡ node
  pub was_there : Mem row before.nodes
  pub is_there : Mem row after.nodes
  pub children : children_of (places_of before) (Node node) ≡ children_of (places_of after) (Node node)
  pub points : (link : Link) → Mem link row.links → points_of (links_of before) link ≡ points_of (links_of after) link

-- both lists ascend; the first has exactly the nodes that are gone, the second exactly those that are new or changed
pub record IsTouched (before after : Big) (gone changed : List ℕ) : Type 0 where
  pub gone_ascends : IsStrictlySortedBy nat_cmp gone
  pub gone_are : (node : ℕ) → Mem node gone ↔ IsGone before after node
  pub changed_ascends : IsStrictlySortedBy nat_cmp changed
  pub changed_are : (node : ℕ) → Mem node changed ↔ IsChanged before after node
  -- so each node is in the one list, or stands as it did
  pub gone_or_there : (node : ℕ) → Mem node (node_numbers before.nodes) → Mem node gone ⊎ Mem node (node_numbers after.nodes)
  pub changed_or_untouched : (node : ℕ) → Mem node (node_numbers after.nodes) → Mem node changed ⊎ IsUntouched before after node

-- ---- the same, said of what the reaction reads

-- an image, or a node below a site for which no entry asks
pub data IsDropped (host : Big) (rule : RuleParts) (nodes : List ℕ) (node : ℕ) : Type 0 where
  is_image : Mem node nodes → IsDropped host rule nodes node
  is_unasked : {site at : ℕ} {row : NodeRow} → At (Node at) site rule.redex.sites → (Mem site rule.map → ⊥)
      → IsBelow host.nodes nodes (image_of rule.redex nodes at) row → row.id ≡ node → IsDropped host rule nodes node

-- a row after is new; or it was there and lay in an image; or an image lay in it; or a node that is dropped, or one that is
-- new, has a port on one of its links
pub data IsMarked (host : HostState) (rule : RuleParts) (nodes : List ℕ) (boundary : Boundary) (after : Big) (row : NodeRow) : Type 0 where
  is_new : host.next_node ≤ row.id → IsMarked host rule nodes boundary after row
  is_moved : {below : NodeRow} {image : ℕ} → Mem below host.big.nodes → below.id ≡ row.id → below.parent ≡ Node image → Mem image nodes
      → IsMarked host rule nodes boundary after row
  is_round : Mem (Node row.id) boundary.places → IsMarked host rule nodes boundary after row
  lost_point : {link : Link} {other : NodeRow} → Mem link row.links → Mem other host.big.nodes → IsDropped host.big rule nodes other.id
      → Mem link other.links → IsMarked host rule nodes boundary after row
  got_point : {link : Link} {other : NodeRow} → Mem link row.links → Mem other after.nodes → host.next_node ≤ other.id
      → Mem link other.links → IsMarked host rule nodes boundary after row

-- these nodes, and no others, have rows that are marked
pub record AreMarked (host : HostState) (rule : RuleParts) (nodes : List ℕ) (boundary : Boundary) (after : Big) (changed : List ℕ) : Type 0 where
  pub marked : (row : NodeRow) → Mem row after.nodes → IsMarked host rule nodes boundary after row → Mem row.id changed
  pub each : (node : ℕ) → Mem node changed → (row : NodeRow) × Mem row after.nodes × (row.id ≡ node) × IsMarked host rule nodes boundary after row

-- an edge of the host is kept: a node that is not dropped has a port on it, or it is the link of a name that the reactum uses
pub data IsEdgeKept (host : Big) (rule : RuleParts) (nodes : List ℕ) (boundary : Boundary) (edge : ℕ) : Type 0 where
  by_row : {row : NodeRow} → Mem row host.nodes → (IsDropped host rule nodes row.id → ⊥) → Mem (Edge edge) row.links
      → IsEdgeKept host rule nodes boundary edge
  by_name : {at : ℕ} {name : Name} {row : NodeRow} → At name at rule.redex.outer → At (Edge edge) at boundary.links
      → Mem row rule.reactum.nodes → Mem (Outer name) row.links → IsEdgeKept host rule nodes boundary edge

-- in the words of what is read off: an image, or a member of the part of a site for which no entry asks
abbrev pub IsListed : RuleParts → List ℕ → Boundary → ℕ → Type 0
IsListed rule nodes boundary node =
    Mem node nodes ⊎ ((site : ℕ) × (part : List ℕ) × At part site boundary.parts × (Mem site rule.map → ⊥) × Mem node part)

-- all ports of the edge are on nodes that are dropped, and no name that the reactum uses stands for it
pub record IsIdle (host : Big) (rule : RuleParts) (nodes : List ℕ) (boundary : Boundary) (edge : ℕ) : Type 0 where
  pub all_dropped : (row : NodeRow) → Mem row host.nodes → Mem (Edge edge) row.links → IsDropped host rule nodes row.id
  pub unnamed : (at : ℕ) (name : Name) (row : NodeRow) → At name at rule.redex.outer → At (Edge edge) at boundary.links
      → Mem row rule.reactum.nodes → Mem (Outer name) row.links → ⊥
