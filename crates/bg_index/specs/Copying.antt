-- Which entries of a map are late, the rows of their copies, and where what lay in an image moves.
use Rattle.std.specs.Prelude.{◌≡◌, ℕ, ◌+◌, ◌<◌, ◌≤◌, ◌==◌, Bool, not, if◌then◌else◌, unwrap_or, List, [], length, map, filter, take, slice_index_or}
use Rattle.std.specs.List.{IsDistinct, position_or_len}
use Rattle.std.specs.Ordering.{eq_by_cmp}
use Rattle.bg_lists.specs.Lists.{Mem, At}
use Rattle.bg_base.specs.declared.names.Place.{Place}
use Rattle.bg_base.specs.declared.names.Place.TheVariants.{Node, Region}
use Rattle.bg_base.specs.declared.names.Link.TheVariants.{Edge}
use Rattle.bg_base.specs.declared.big.NodeRow.{NodeRow}
use Rattle.bg_base.specs.declared.big.Big.{Big}
use Rattle.bg_base.specs.Bigraph.{row_of}
use Rattle.bg_base.specs.Elementary.{counted}
use Rattle.bg_base.specs.Limits.{largest_counter}
use Rattle.bg_place.specs.Places.{places_of, children_of}
use Rattle.bg_rewriting.specs.Boundaries.{Boundary}
use Rattle.bg_rewriting.specs.Rewriting.{IsRowAfter, late_count, place_made}
use Rattle.bg_rules.specs.Instantiation.{is_among}
use Rattle.bg_rules.specs.LocalConditions.{image_of}
use Rattle.bg_rules.specs.Reaction.{HostState}
use Rattle.bg_rules.specs.Rules.{RuleParts}
use Rattle.bg_index.specs.declared.plans.Move.{Move}
use Rattle.bg_index.specs.declared.reading.Part.{Part}
use Rattle.bg_index.specs.Indexed.{no_row}
use Rattle.bg_index.specs.Plans.{move_cmp}

-- ---- late entries

abbrev pub parts_of : List Part → List (List ℕ)
parts_of parts = map (λ (part : Part). part.nodes.items) parts

-- the nodes at the site where the entry is late, none where it is not
abbrev pub late_part : List (List ℕ) → Bool → ℕ → List ℕ
late_part parts late site = if late then slice_index_or parts site [] else []

-- ---- rows

-- the reactum's row can be numbered from the next ones on
pub record IsRoomFor (host : HostState) (row : NodeRow) : Type 0 where
  pub number : host.next_node + row.id ≤ largest_counter
  pub parent : (node : ℕ) → row.parent ≡ Node node → host.next_node + node ≤ largest_counter
  pub links : (edge : ℕ) → Mem (Edge edge) row.links → host.next_edge + edge ≤ largest_counter

-- the row of the node
abbrev pub row_with : List NodeRow → ℕ → NodeRow
row_with rows node = unwrap_or (row_of rows node) no_row

-- how many nodes of the part come before the node
abbrev pub rank_in : List ℕ → ℕ → ℕ
rank_in part node = position_or_len (λ other. other == node) part

-- in a late copy what lay in an image lies in that place, and the nodes of the part have the numbers from `free` on
abbrev pub place_late : List ℕ → List ℕ → ℕ → Place → Place → Place
place_late images part free top (Node node) = if is_among node images then top else Node (free + rank_in part node)
place_late images part free top (Region region) = Region region

abbrev pub row_late : List ℕ → List ℕ → ℕ → Place → NodeRow → NodeRow
row_late images part free top row =
    record { id = free + rank_in part row.id; control = row.control; parent = place_late images part free top row.parent; links = row.links }

-- the late copy of a part
abbrev pub rows_late : List NodeRow → List ℕ → List ℕ → ℕ → Place → List NodeRow
rows_late rows images part free top = map (λ node. row_late images part free top (row_with rows node)) part

-- the rows of the reactum and of the late copies of so many entries, and the number that is free after them
pub record AreCopied (host : HostState) (rule : RuleParts) (nodes : List ℕ) (boundary : Boundary) (at free : ℕ) (rows : List NodeRow) : Type 0 where
  pub number : free ≡ host.next_node + length rule.reactum.nodes + late_count boundary.parts [] (take at rule.map)
  pub numbers : map (λ (row : NodeRow). row.id) rows
      ≡ counted host.next_node (length rule.reactum.nodes + late_count boundary.parts [] (take at rule.map))
  pub are : (row : NodeRow) → Mem row rows → IsRowAfter host rule nodes boundary row

-- ---- moves

-- where the site of the reactum lies
abbrev pub top_made : HostState → RuleParts → Boundary → ℕ → Place
top_made host rule boundary at = place_made host.next_node boundary.places (slice_index_or rule.reactum.sites at (Region at))

-- what lies in the image and is no image; nothing for a late entry
abbrev pub tops_at : Big → List ℕ → Bool → ℕ → List ℕ
tops_at host images late image =
    if late then [] else filter (λ number. not (is_among number images)) (children_of (places_of host) (Node image))

-- moves of these nodes to the place
abbrev pub moves_to : Place → List ℕ → List Move
moves_to place nodes = map (λ node. record { node = node; place = place }) nodes

-- the row lies in the image of a node with a site that this entry is the first to ask for, and is no image
pub record IsTop (host : HostState) (rule : RuleParts) (nodes : List ℕ) (at : ℕ) (row : NodeRow) : Type 0 where
  pub site : ℕ
  pub node : ℕ
  pub asked : At site at rule.map
  pub first : Mem site (take at rule.map) → ⊥
  pub has_site : At (Node node) site rule.redex.sites
  pub of_host : Mem row host.big.nodes
  pub no_image : Mem row.id nodes → ⊥
  pub lies : row.parent ≡ Node (image_of rule.redex nodes node)

-- the move takes such a row to where the site of the reactum lies
pub record IsMoved (host : HostState) (rule : RuleParts) (nodes : List ℕ) (boundary : Boundary) (at : ℕ) (move : Move) : Type 0 where
  pub row : NodeRow
  pub top : IsTop host rule nodes at row
  pub number : row.id ≡ move.node
  pub place : top_made host rule boundary at ≡ move.place

-- the moves for the first so many entries
pub record AreMoved (host : HostState) (rule : RuleParts) (nodes : List ℕ) (boundary : Boundary) (at : ℕ) (moves : List Move) : Type 0 where
  pub distinct : IsDistinct (eq_by_cmp move_cmp) moves
  pub each : (move : Move) → Mem move moves → (entry : ℕ) × (entry < at) × IsMoved host rule nodes boundary entry move
  pub all : (entry : ℕ) (row : NodeRow) → entry < at → IsTop host rule nodes entry row → (move : Move) × Mem move moves × (move.node ≡ row.id)
