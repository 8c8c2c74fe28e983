-- The links of a bigraph: its edges and outer names, and the points that are tied to them, which are the ports of its
-- nodes and its inner names (Milner, chapter 2).
use Rattle.std.specs.Prelude.{ℕ, ◌+◌, Bool, true, false, ◌==◌, is_some, Option, List, [], ◌∷◌, ◌++◌, length, map, filter, find, slice_get}
use Rattle.std.specs.Option.{option_and_then}
use Rattle.bg_base.specs.declared.names.Link.{Link}
use Rattle.bg_base.specs.declared.names.Link.TheVariants.{Edge, Outer}
use Rattle.bg_base.specs.declared.big.NodeRow.{NodeRow}
use Rattle.bg_base.specs.declared.big.InnerRow.{InnerRow}
use Rattle.bg_base.specs.declared.big.Big.{Big}
use Rattle.bg_base.specs.Composition.{link_through}
use Rattle.bg_base.specs.Products.{same_link}
use Rattle.bg_link.specs.declared.graph.PortRow.{PortRow}
use Rattle.bg_link.specs.declared.graph.Links.{Links}
use Rattle.bg_link.specs.declared.graph.Point.{Point}
use Rattle.bg_link.specs.declared.graph.Point.TheVariants.{Port, Inner}

-- what a node's row says of its ports
abbrev pub port_row : NodeRow → PortRow
port_row row = record { node = row.id; links = row.links }

-- the link part of a bigraph
abbrev pub links_of : Big → Links
links_of big = record { edges = big.edges; inner = big.inner; outer = big.outer; ports = map port_row big.nodes }

-- ---- ports

-- the row of a node: the first of that number
abbrev pub row_of : List PortRow → ℕ → Option PortRow
row_of rows node = find (λ (row : PortRow). row.node == node) rows

-- the link of a port: that of the node's row, at the place of the port
abbrev pub link_in : List PortRow → ℕ → ℕ → Option Link
link_in rows node index = option_and_then (λ (row : PortRow). slice_get row.links index) (row_of rows node)

abbrev pub link_of : Links → ℕ → ℕ → Option Link
link_of links node index = link_in links.ports node index

abbrev pub has_port : Links → ℕ → ℕ → Bool
has_port links node index = is_some (link_of links node index)

-- ---- points

-- the ports of a node with their links, from that index on
abbrev pub ports_from : ℕ → ℕ → List Link → List (Point × Link)
ports_from node index [] = []
ports_from node index (link ∷ links) = (Port node index, link) ∷ ports_from node (index + 1) links

-- the ports of all nodes with their links
abbrev pub ports_in : List PortRow → List (Point × Link)
ports_in [] = []
ports_in (row ∷ rows) = ports_from row.node 0 row.links ++ ports_in rows

abbrev pub inner_point : InnerRow → Point × Link
inner_point row = (Inner row.name, row.link)

-- all points with their links: the ports by node and index, then the inner names
abbrev pub all_points : Links → List (Point × Link)
all_points links = ports_in links.ports ++ map inner_point links.inner

abbrev pub point_of : Point × Link → Point
point_of tied = tied.0

-- the points that are tied to the link
abbrev pub points_of : Links → Link → List Point
points_of links link = map point_of (filter (λ (tied : Point × Link). same_link tied.1 link) (all_points links))

-- the number of points that are tied to the link
abbrev pub degree_of : Links → Link → ℕ
degree_of links link = length (points_of links link)

-- an edge is a closed link, an outer name an open one
abbrev pub is_edge : Link → Bool
is_edge (Edge edge) = true
is_edge (Outer name) = false

-- the edges that no point is tied to
abbrev pub idle_edges_of : Links → List ℕ
idle_edges_of links = filter (λ edge. length (points_of links (Edge edge)) == 0) links.edges

-- ---- composition and products

-- the ports of a node of F, in the composition of G and F
abbrev pub ports_through : Big → NodeRow → PortRow
ports_through g row = record { node = row.id; links = map (link_through g) row.links }

-- the ports of G, and those of F as they are in the composition
abbrev pub joined_ports : Big → Big → List PortRow
joined_ports g f = map port_row g.nodes ++ map (ports_through g) f.nodes

-- the ports of F and those of G
abbrev pub both_ports : Big → Big → List PortRow
both_ports f g = map port_row f.nodes ++ map port_row g.nodes
