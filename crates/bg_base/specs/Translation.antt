-- A bigraph whose nodes and edges are numbered anew (Milner, chapter 2: support translation).
use Rattle.std.specs.Prelude.{ℕ, ◌==◌, if◌then◌else◌, List, [], ◌∷◌, map}
use Rattle.std.specs.Ordering.{nat_cmp}
use Rattle.bg_lists.specs.Lists.{sort}
use Rattle.bg_lists.specs.Orders.{before}
use Rattle.bg_base.specs.declared.names.Place.{Place}
use Rattle.bg_base.specs.declared.names.Place.TheVariants.{Node, Region}
use Rattle.bg_base.specs.declared.names.Link.{Link}
use Rattle.bg_base.specs.declared.names.Link.TheVariants.{Edge, Outer}
use Rattle.bg_base.specs.declared.big.NodeRow.{NodeRow}
use Rattle.bg_base.specs.declared.big.InnerRow.{InnerRow}
use Rattle.bg_base.specs.declared.big.Big.{Big}
use Rattle.bg_base.specs.Bigraph.{node_cmp}

-- the number of the second list that stands where this one first stands in the first list; itself where it does not
unfoldable pub number_renamed : List ℕ → List ℕ → ℕ → ℕ
number_renamed [] new old = old
number_renamed (x ∷ xs) [] old = old
number_renamed (x ∷ xs) (y ∷ ys) old = if x == old then y else number_renamed xs ys old

-- the numbers of the nodes, in the order of the rows
abbrev pub node_numbers : List NodeRow → List ℕ
node_numbers rows = map (λ (row : NodeRow). row.id) rows

-- the place, where the nodes have these new numbers
abbrev pub place_renamed : Big → List ℕ → Place → Place
place_renamed big nodes (Node node) = Node (number_renamed (node_numbers big.nodes) nodes node)
place_renamed big nodes (Region region) = Region region

-- the link, where the edges have these new numbers
abbrev pub link_renamed : Big → List ℕ → Link → Link
link_renamed big edges (Edge edge) = Edge (number_renamed big.edges edges edge)
link_renamed big edges (Outer name) = Outer name

-- the row of a node, where the nodes and the edges have these new numbers
abbrev pub row_renamed : Big → List ℕ → List ℕ → NodeRow → NodeRow
row_renamed big nodes edges row =
    record {
      id = number_renamed (node_numbers big.nodes) nodes row.id;
      control = row.control;
      parent = place_renamed big nodes row.parent;
      links = map (link_renamed big edges) row.links;
    }

-- an inner row, where the edges have these new numbers
abbrev pub inner_renamed : Big → List ℕ → InnerRow → InnerRow
inner_renamed big edges row = record row { link = link_renamed big edges row.link }

-- the bigraph with these numbers for its nodes and its edges, in the order of its rows
unfoldable pub rename : Big → List ℕ → List ℕ → Big
rename big nodes edges =
    record big {
      nodes = sort (before node_cmp) (map (row_renamed big nodes edges) big.nodes);
      edges = sort (before nat_cmp) edges;
      sites = map (place_renamed big nodes) big.sites;
      inner = map (inner_renamed big edges) big.inner;
    }
