-- What a reaction does to the rows of a host: which rows stay, which come, and from where.
use Rattle.std.specs.Prelude.{◌≡◌, ℕ, ◌+◌, ◌==◌, if◌then◌else◌, List, [], ◌∷◌, length, map, take, slice_index_or}
use Rattle.std.specs.List.{position_or_len}
use Rattle.std.specs.List.Sorted.{IsStrictlySortedBy}
use Rattle.std.specs.Ordering.{nat_cmp, is_eq}
use Rattle.bg_lists.specs.Lists.{Mem, At}
use Rattle.bg_base.specs.declared.names.Name.{Name}
use Rattle.bg_base.specs.declared.names.Place.{Place}
use Rattle.bg_base.specs.declared.names.Place.TheVariants.{Node, Region}
use Rattle.bg_base.specs.declared.names.Link.{Link}
use Rattle.bg_base.specs.declared.names.Link.TheVariants.{Edge, Outer}
use Rattle.bg_base.specs.declared.big.NodeRow.{NodeRow}
use Rattle.bg_base.specs.Order.{name_cmp}
use Rattle.bg_base.specs.Bigraph.{node_cmp}
use Rattle.bg_rules.specs.LocalConditions.{image_of}
use Rattle.bg_rules.specs.Instantiation.{is_among}
use Rattle.bg_rules.specs.Reaction.{HostState}
use Rattle.bg_rules.specs.Rules.{RuleParts}
use Rattle.bg_rewriting.specs.Boundaries.{IsBelow, IsOutside, Boundary}

-- ---- the rows of the reactum

-- where a place of the reactum comes to lie, its nodes numbered from that one on
abbrev pub place_made : ℕ → List Place → Place → Place
place_made next places (Node node) = Node (next + node)
place_made next places (Region region) = slice_index_or places region (Region region)

-- what a link of the reactum becomes, its edges numbered from that one on
abbrev pub link_made : ℕ → List Name → List Link → Link → Link
link_made next names links (Edge edge) = Edge (next + edge)
link_made next names links (Outer name) = slice_index_or links (position_or_len (λ (other : Name). is_eq (name_cmp other name)) names) (Outer name)

-- a row of the reactum, in the host after
abbrev pub row_made : HostState → RuleParts → Boundary → NodeRow → NodeRow
row_made host rule boundary row =
    record {
      id = host.next_node + row.id;
      control = row.control;
      parent = place_made host.next_node boundary.places row.parent;
      links = map (link_made host.next_edge rule.redex.outer boundary.links) row.links;
    }

-- ---- the rows of the copies

-- a copy is late where an earlier entry asks for the same site: so many nodes have the late copies of these entries, after those
unfoldable pub late_count : List (List ℕ) → List ℕ → List ℕ → ℕ
late_count parts earlier [] = 0
late_count parts earlier (site ∷ entries) =
    (if is_among site earlier then length (slice_index_or parts site []) else 0) + late_count parts (site ∷ earlier) entries

-- the number of a node in the copy of entry `at`: its own where the copy is not late, else the next free ones in their order
unfoldable pub number_copied : List (List ℕ) → List ℕ → ℕ → ℕ → ℕ → ℕ → ℕ
number_copied parts entries next at site node =
    if is_among site (take at entries)
    then next + late_count parts [] (take at entries) + position_or_len (λ other. other == node) (slice_index_or parts site [])
    else node

-- what lay in an image comes to lie where the site of the reactum is, and all else where its parent is copied
abbrev pub place_copied : HostState → RuleParts → List ℕ → Boundary → ℕ → ℕ → Place → Place
place_copied host rule nodes boundary at site (Node node) =
    if is_among node nodes
    then place_made host.next_node boundary.places (slice_index_or rule.reactum.sites at (Region at))
    else Node (number_copied boundary.parts rule.map (host.next_node + length rule.reactum.nodes) at site node)
place_copied host rule nodes boundary at site (Region region) = Region region

-- a row below a site, in the copy of entry `at`
abbrev pub row_copied : HostState → RuleParts → List ℕ → Boundary → ℕ → ℕ → NodeRow → NodeRow
row_copied host rule nodes boundary at site row =
    record {
      id = number_copied boundary.parts rule.map (host.next_node + length rule.reactum.nodes) at site row.id;
      control = row.control;
      parent = place_copied host rule nodes boundary at site row.parent;
      links = row.links;
    }

-- ---- the host after a reaction

-- a row outside, which stays as it is; a row of the reactum; a row below the site that an entry asks for, in its copy
pub data IsRowAfter (host : HostState) (rule : RuleParts) (nodes : List ℕ) (boundary : Boundary) (row : NodeRow) : Type 0 where
  stays : IsOutside host.big.nodes nodes row → IsRowAfter host rule nodes boundary row
  is_made : {below : NodeRow} → Mem below rule.reactum.nodes → row_made host rule boundary below ≡ row
      → IsRowAfter host rule nodes boundary row
  is_copied : {at site node : ℕ} {below : NodeRow} → At site at rule.map → At (Node node) site rule.redex.sites
      → IsBelow host.big.nodes nodes (image_of rule.redex nodes node) below
      → row_copied host rule nodes boundary at site below ≡ row
      → IsRowAfter host rule nodes boundary row

-- the host after: it has these rows and no other, the edges that are tied to a port, and the face of the host before
pub record IsRewritten (host : HostState) (rule : RuleParts) (nodes : List ℕ) (boundary : Boundary) (after : HostState) : Type 0 where
  pub nodes_ascend : IsStrictlySortedBy node_cmp after.big.nodes
  pub rows_in : (row : NodeRow) → IsRowAfter host rule nodes boundary row → Mem row after.big.nodes
  pub rows_of : (row : NodeRow) → Mem row after.big.nodes → IsRowAfter host rule nodes boundary row
  pub edges_ascend : IsStrictlySortedBy nat_cmp after.big.edges
  pub edges_in : (edge : ℕ) (row : NodeRow) → Mem row after.big.nodes → Mem (Edge edge) row.links → Mem edge after.big.edges
  pub edges_of : (edge : ℕ) → Mem edge after.big.edges → (row : NodeRow) × Mem row after.big.nodes × Mem (Edge edge) row.links
  pub sites : after.big.sites ≡ []
  pub inner : after.big.inner ≡ []
  pub regions : after.big.regions ≡ host.big.regions
  pub outer : after.big.outer ≡ host.big.outer
  pub next_node : after.next_node ≡ host.next_node + length rule.reactum.nodes + late_count boundary.parts [] rule.map
  pub next_edge : after.next_edge ≡ host.next_edge + length rule.reactum.edges
