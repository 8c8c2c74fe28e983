-- Pieces of a host: what a condition of a rule looks at. At an occurrence of the redex they are the parameter and the
-- context, each with the links that its nodes have in the host, and not through the pattern.
use Rattle.std.specs.Prelude.{ℕ, ◌+◌, not, if◌then◌else◌, unwrap_or, option_map, List, [], ◌∷◌, ◌++◌, map, filter}
use Rattle.std.specs.Ordering.{nat_cmp}
use Rattle.bg_lists.specs.Orders.{set_of}
use Rattle.bg_base.specs.declared.names.Name.{Name}
use Rattle.bg_base.specs.declared.names.Name.TheVariants.{Opened}
use Rattle.bg_base.specs.declared.names.Place.{Place}
use Rattle.bg_base.specs.declared.names.Link.{Link}
use Rattle.bg_base.specs.declared.names.Link.TheVariants.{Edge, Outer}
use Rattle.bg_base.specs.declared.big.NodeRow.{NodeRow}
use Rattle.bg_base.specs.declared.big.Big.{Big}
use Rattle.bg_base.specs.Order.{name_cmp}
use Rattle.bg_base.specs.Bigraph.{row_of}
use Rattle.bg_base.specs.Translation.{node_numbers}
use Rattle.bg_rules.specs.Instantiation.{is_among}

-- ---- links

-- the edges among the links
abbrev pub edges_in : List Link → List ℕ
edges_in [] = []
edges_in (Edge edge ∷ links) = edge ∷ edges_in links
edges_in (Outer name ∷ links) = edges_in links

-- the outer names among the links
abbrev pub names_in : List Link → List Name
names_in [] = []
names_in (Edge edge ∷ links) = names_in links
names_in (Outer name ∷ links) = name ∷ names_in links

-- the edges to which ports of the rows are tied: one for each such port, in order
abbrev pub tied_edges : List NodeRow → List ℕ
tied_edges [] = []
tied_edges (row ∷ rows) = edges_in row.links ++ tied_edges rows

-- the outer names to which ports of the rows are tied: one for each such port, in order
abbrev pub tied_names : List NodeRow → List Name
tied_names [] = []
tied_names (row ∷ rows) = names_in row.links ++ tied_names rows

-- the edges that ports of other nodes than these have
abbrev pub edges_outside : List NodeRow → List ℕ → List ℕ
edges_outside rows nodes = tied_edges (filter (λ (row : NodeRow). not (is_among row.id nodes)) rows)

-- where these edges are opened, what the link becomes
abbrev pub link_opened : List ℕ → Link → Link
link_opened edges (Edge edge) = if is_among edge edges then Outer (Opened edge) else Edge edge
link_opened edges (Outer name) = Outer name

-- ---- rows

-- the links of the node
abbrev pub links_at : List NodeRow → ℕ → List Link
links_at rows node = unwrap_or (option_map (λ (row : NodeRow). row.links) (row_of rows node)) []

-- a row of a part of the host: its place is that of the part, its links are those of the host, where these edges are opened
abbrev pub piece_row : List NodeRow → List ℕ → NodeRow → NodeRow
piece_row rows edges row = record row { links = map (link_opened edges) (links_at rows row.id) }

-- the rows of the part, where the edges with a port outside of it are opened
abbrev pub piece_rows : List NodeRow → List NodeRow → List NodeRow
piece_rows rows part = map (piece_row rows (edges_outside rows (node_numbers part))) part

-- the control of a hole: it has no port, is in no signature, and no model can write it
abbrev pub hole_control : ℕ
hole_control = 4294967295

-- a hole in each of the places, numbered from the first number on
unfoldable pub holes : ℕ → List Place → List NodeRow
holes first [] = []
holes first (place ∷ places) = record { id = first; control = hole_control; parent = place; links = [] } ∷ holes (first + 1) places

-- ---- pieces

-- rows as a bigraph: its edges and outer names are those that its ports have
abbrev pub bounded : List NodeRow → ℕ → Big
bounded rows regions =
    record {
      nodes = rows;
      edges = set_of nat_cmp (tied_edges rows);
      sites = [];
      inner = [];
      regions = regions;
      outer = set_of name_cmp (tied_names rows);
    }

-- a part of the host with these holes
abbrev pub piece : Big → Big → List NodeRow → Big
piece host part holed = bounded (piece_rows host.nodes part.nodes ++ holed) part.regions

-- the parameter piece: the nodes and regions of the parameter
unfoldable pub parameter_piece : Big → Big → Big
parameter_piece host parameter = piece host parameter []

-- the context piece: the nodes and regions of the context, and a hole where each region of the redex stood, numbered
-- from the host's next node on
unfoldable pub context_piece : Big → ℕ → Big → Big
context_piece host next context = piece host context (holes next context.sites)
