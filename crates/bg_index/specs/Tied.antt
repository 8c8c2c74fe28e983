-- The edges on ports, in the order of the ports; and what the names of a rule's reactum stand for.
use Rattle.std.specs.Prelude.{ℕ, ◌&&◌, Bool, not, Option, Some, None, unwrap_or, option_map, List, [], ◌∷◌, ◌++◌, slice_get}
use Rattle.std.specs.List.{list_any, position_or_len}
use Rattle.std.specs.Ordering.{is_eq}
use Rattle.bg_base.specs.declared.names.Name.{Name}
use Rattle.bg_base.specs.declared.names.Link.{Link}
use Rattle.bg_base.specs.declared.names.Link.TheVariants.{Edge, Outer}
use Rattle.bg_base.specs.declared.big.NodeRow.{NodeRow}
use Rattle.bg_base.specs.declared.big.Big.{Big}
use Rattle.bg_base.specs.Bigraph.{row_of}
use Rattle.bg_base.specs.Order.{name_cmp}
use Rattle.bg_link.specs.Links.{links_of, points_of}
use Rattle.bg_rewriting.specs.Keeping.{stays_at}
use Rattle.bg_rules.specs.Instantiation.{is_among}

-- ---- edges

-- the edge that the link is, if it is one
abbrev pub edge_in : Link → List ℕ
edge_in (Edge edge) = edge ∷ []
edge_in (Outer name) = []

-- the edges among the links
abbrev pub edges_in : List Link → List ℕ
edges_in [] = []
edges_in (link ∷ links) = edge_in link ++ edges_in links

-- the edges on ports of the rows
abbrev pub edges_tied : List NodeRow → List ℕ
edges_tied [] = []
edges_tied (row ∷ rows) = edges_in row.links ++ edges_tied rows

-- the links of a node, none where it is not there
abbrev pub links_at : List NodeRow → ℕ → List Link
links_at rows node = unwrap_or (option_map (λ (row : NodeRow). row.links) (row_of rows node)) []

-- the edges on ports of these nodes
abbrev pub edges_on : List NodeRow → List ℕ → List ℕ
edges_on rows [] = []
edges_on rows (node ∷ nodes) = edges_in (links_at rows node) ++ edges_on rows nodes

-- ---- what names stand for

-- the link for which an outer name stands, in links beside the names
abbrev pub link_named : List Name → List Link → Link → Option Link
link_named outer links (Edge edge) = None
link_named outer links (Outer name) = slice_get links (position_or_len (λ (other : Name). is_eq (name_cmp other name)) outer)

abbrev pub edge_found : Option Link → List ℕ
edge_found None = []
edge_found (Some link) = edge_in link

-- the edges for which outer names among the ports stand
abbrev pub edges_named : List Name → List Link → List Link → List ℕ
edges_named outer links [] = []
edges_named outer links (port ∷ ports) = edge_found (link_named outer links port) ++ edges_named outer links ports

-- so of the ports of rows
abbrev pub edges_named_by : List Name → List Link → List NodeRow → List ℕ
edges_named_by outer links [] = []
edges_named_by outer links (row ∷ rows) = edges_named outer links row.links ++ edges_named_by outer links rows

-- ---- edges that become idle

-- no name stands for the edge, and none of its points stays
abbrev pub is_left_idle : Big → List ℕ → List ℕ → ℕ → Bool
is_left_idle host named gone edge =
    not (is_among edge named) && not (list_any (stays_at (λ node. not (is_among node gone))) (points_of (links_of host) (Edge edge)))
