-- Composition of concrete bigraphs (Milner, chapter 2): G's sites take F's regions, G's inner names take F's outer names.
use Rattle.std.specs.Prelude.{◌≡◌, ℕ, Bool, ◌&&◌, ◌==◌, not, is_some, IsNone, unwrap_or, option_map, List, ◌++◌, length, map, slice_index_or, All}
use Rattle.std.specs.List.{list_all}
use Rattle.std.specs.Cmp.Lexicographic.{pointwise}
use Rattle.std.specs.Ordering.{nat_cmp, is_eq}
use Rattle.bg_base.specs.Order.{name_cmp}
use Rattle.bg_lists.specs.Lists.{sort}
use Rattle.bg_lists.specs.Orders.{before}
use Rattle.bg_base.specs.declared.names.Name.{Name}
use Rattle.bg_base.specs.declared.names.Place.{Place}
use Rattle.bg_base.specs.declared.names.Place.TheVariants.{Node, Region}
use Rattle.bg_base.specs.declared.names.Link.{Link}
use Rattle.bg_base.specs.declared.names.Link.TheVariants.{Edge, Outer}
use Rattle.bg_base.specs.declared.big.NodeRow.{NodeRow}
use Rattle.bg_base.specs.declared.big.InnerRow.{InnerRow}
use Rattle.bg_base.specs.declared.big.Big.{Big}
use Rattle.bg_base.specs.Bigraph.{node_cmp, row_of, edge_of, inner_of}

-- the inner names, in their order
abbrev pub inner_names : List InnerRow → List Name
inner_names rows = map (λ (row : InnerRow). row.name) rows

-- F's outer face is G's inner face
pub record FacesAgree (g f : Big) : Type 0 where
  pub widths : f.regions ≡ length g.sites
  pub names : f.outer ≡ inner_names g.inner

-- no node and no edge is in both
pub record SupportsApart (g f : Big) : Type 0 where
  pub nodes_apart : All (λ (row : NodeRow). IsNone (row_of g.nodes row.id)) f.nodes
  pub edges_apart : All (λ (edge : ℕ). IsNone (edge_of g.edges edge)) f.edges

-- the test that F's outer face is G's inner face
abbrev pub faces_agree : Big → Big → Bool
faces_agree g f =
    (f.regions == length g.sites) && pointwise (λ (x y : Name). is_eq (name_cmp x y)) f.outer (inner_names g.inner)

-- the test that no node and no edge is in both
abbrev pub supports_apart : Big → Big → Bool
supports_apart g f =
    list_all (λ (row : NodeRow). not (is_some (row_of g.nodes row.id))) f.nodes
    && list_all (λ (edge : ℕ). not (is_some (edge_of g.edges edge))) f.edges

-- where a place of F comes to lie: region j becomes the parent of G's site j
abbrev pub place_through : Big → Place → Place
place_through g (Node node) = Node node
place_through g (Region region) = slice_index_or g.sites region (Region region)

-- what a link of F becomes: outer name y becomes the link of G's inner name y
abbrev pub link_through : Big → Link → Link
link_through g (Edge edge) = Edge edge
link_through g (Outer name) =
    unwrap_or (option_map (λ (row : InnerRow). row.link) (inner_of g.inner name)) (Outer name)

-- a row of F, in the composition
abbrev pub row_through : Big → NodeRow → NodeRow
row_through g row =
    record row { parent = place_through g row.parent; links = map (link_through g) row.links }

-- an inner row of F, in the composition
abbrev pub inner_through : Big → InnerRow → InnerRow
inner_through g row = record row { link = link_through g row.link }

-- the composition of G and F
unfoldable pub compose : Big → Big → Big
compose g f =
    record {
      nodes = sort (before node_cmp) (g.nodes ++ map (row_through g) f.nodes);
      edges = sort (before nat_cmp) (g.edges ++ f.edges);
      sites = map (place_through g) f.sites;
      inner = map (inner_through g) f.inner;
      regions = g.regions;
      outer = g.outer;
    }
