-- Products of concrete bigraphs (Milner, chapters 2 and 3): side by side, with names apart or shared, in one region,
-- nested; and a name closed, idle edges dropped.
use Rattle.std.specs.Prelude.{ℕ, ◌+◌, Bool, ◌||◌, ◌==◌, false, not, IsNone, if◌then◌else◌, List, ◌++◌, map, filter, All}
use Rattle.std.specs.List.{list_any}
use Rattle.std.specs.Ordering.{nat_cmp, is_eq}
use Rattle.bg_lists.specs.Lists.{put, sort}
use Rattle.bg_lists.specs.Orders.{before, set_of}
use Rattle.bg_base.specs.declared.names.Name.{Name}
use Rattle.bg_base.specs.declared.names.Place.{Place}
use Rattle.bg_base.specs.declared.names.Place.TheVariants.{Node, Region}
use Rattle.bg_base.specs.declared.names.Link.{Link}
use Rattle.bg_base.specs.declared.names.Link.TheVariants.{Edge, Outer}
use Rattle.bg_base.specs.declared.big.NodeRow.{NodeRow}
use Rattle.bg_base.specs.declared.big.InnerRow.{InnerRow}
use Rattle.bg_base.specs.declared.big.Big.{Big}
use Rattle.bg_base.specs.Order.{name_cmp}
use Rattle.bg_base.specs.Bigraph.{node_cmp, inner_cmp, inner_of, outer_of}
use Rattle.bg_base.specs.Composition.{compose}
use Rattle.bg_base.specs.Elementary.{identity}

-- ---- side by side

-- no inner name is in both
pub record InnerApart (f g : Big) : Type 0 where
  pub inner_apart : All (λ (row : InnerRow). IsNone (inner_of f.inner row.name)) g.inner

-- no outer name is in both
pub record OuterApart (f g : Big) : Type 0 where
  pub outer_apart : All (λ (name : Name). IsNone (outer_of f.outer name)) g.outer

-- a place of G, where F stands before it with so many regions
abbrev pub place_beside : ℕ → Place → Place
place_beside width (Node node) = Node node
place_beside width (Region region) = Region (width + region)

-- the row of a node of G, where F stands before it with so many regions
abbrev pub row_beside : ℕ → NodeRow → NodeRow
row_beside width row = record row { parent = place_beside width row.parent }

-- F and G side by side, with these outer names: the sites and regions of G come after those of F
abbrev pub beside : Big → Big → List Name → Big
beside f g names =
    record {
      nodes = sort (before node_cmp) (f.nodes ++ map (row_beside f.regions) g.nodes);
      edges = sort (before nat_cmp) (f.edges ++ g.edges);
      sites = f.sites ++ map (place_beside f.regions) g.sites;
      inner = sort (before inner_cmp) (f.inner ++ g.inner);
      regions = f.regions + g.regions;
      outer = names;
    }

-- the tensor product of F and G, whose names are apart
unfoldable pub tensor : Big → Big → Big
tensor f g = beside f g (sort (before name_cmp) (f.outer ++ g.outer))

-- the parallel product of F and G: they share the outer names that both have
unfoldable pub parallel : Big → Big → Big
parallel f g = beside f g (set_of name_cmp (f.outer ++ g.outer))

-- ---- in one region

-- the place, where every region is made region 0
abbrev pub place_in_one : Place → Place
place_in_one (Node node) = Node node
place_in_one (Region region) = Region 0

-- the row of a node, where every region is made region 0
abbrev pub row_in_one : NodeRow → NodeRow
row_in_one row = record row { parent = place_in_one row.parent }

-- one region in place of all, also of none
abbrev pub in_one_region : Big → Big
in_one_region big = record big { nodes = map row_in_one big.nodes; sites = map place_in_one big.sites; regions = 1 }

-- the merge product of F and G: their parallel product, in one region
unfoldable pub merge : Big → Big → Big
merge f g = in_one_region (parallel f g)

-- ---- nesting

-- G in the sites of F, where F has no inner names: they share the outer names that both have
unfoldable pub nest : Big → Big → Big
nest f g = compose (parallel (identity 0 g.outer) f) g

-- ---- links

-- the outer name becomes the edge
abbrev pub link_closed : Name → ℕ → Link → Link
link_closed name edge (Edge other) = Edge other
link_closed name edge (Outer other) = if is_eq (name_cmp other name) then Edge edge else Outer other

-- the row of a node, where the outer name becomes the edge
abbrev pub row_closed : Name → ℕ → NodeRow → NodeRow
row_closed name edge row = record row { links = map (link_closed name edge) row.links }

-- an inner row, where the outer name becomes the edge
abbrev pub inner_closed : Name → ℕ → InnerRow → InnerRow
inner_closed name edge row = record row { link = link_closed name edge row.link }

-- F with the outer name made that edge
unfoldable pub close : Big → Name → ℕ → Big
close f name edge =
    record f {
      nodes = map (row_closed name edge) f.nodes;
      edges = put (before nat_cmp) edge f.edges;
      inner = map (inner_closed name edge) f.inner;
      outer = filter (λ (other : Name). not (is_eq (name_cmp other name))) f.outer;
    }

-- both are one link
abbrev pub same_link : Link → Link → Bool
same_link (Edge d) (Edge e) = d == e
same_link (Edge d) (Outer y) = false
same_link (Outer x) (Edge e) = false
same_link (Outer x) (Outer y) = is_eq (name_cmp x y)

-- a port or an inner name has the link
abbrev pub has_point : Big → Link → Bool
has_point big link =
    list_any (λ (row : NodeRow). list_any (λ other. same_link other link) row.links) big.nodes
    || list_any (λ (row : InnerRow). same_link row.link link) big.inner

-- without the edges that have no point
unfoldable pub lean : Big → Big
lean big = record big { edges = filter (λ edge. has_point big (Edge edge)) big.edges }
