-- What the operations come to where the numbers of the second bigraph lie behind those of the first: its rows after
-- those of the first.
use Rattle.std.specs.Prelude.{ℕ, List, ◌∷◌, ◌++◌, map, filter, not}
use Rattle.std.specs.Ordering.{is_eq}
use Rattle.bg_lists.specs.Lists.{sort}
use Rattle.bg_lists.specs.Orders.{before, set_of}
use Rattle.bg_base.specs.declared.big.InnerRow.{InnerRow}
use Rattle.bg_base.specs.declared.big.Big.{Big}
use Rattle.bg_base.specs.Order.{name_cmp}
use Rattle.bg_base.specs.Bigraph.{inner_cmp}
use Rattle.bg_base.specs.Products.{place_beside, row_beside, row_closed, inner_closed}
use Rattle.bg_base.specs.declared.names.Name.{Name}
use Rattle.bg_base.specs.declared.names.Place.{Place}
use Rattle.bg_builder.specs.Inside.{place_at, row_at, row_by, inner_by}

-- the rows of G after those of F, with so many regions
abbrev pub appended : ℕ → Big → Big → Big
appended regions f g =
    record {
      nodes = f.nodes ++ g.nodes;
      edges = f.edges ++ g.edges;
      sites = f.sites ++ g.sites;
      inner = sort (before inner_cmp) (f.inner ++ g.inner);
      regions = regions;
      outer = set_of name_cmp (f.outer ++ g.outer);
    }

-- G with its regions after so many
abbrev pub raised : ℕ → Big → Big
raised width g = record g { nodes = map (row_beside width) g.nodes; sites = map (place_beside width) g.sites }

-- F with its places put into these sites, and tied by these inner names
abbrev pub put_through : List Place → List InnerRow → Big → Big
put_through sites inner f =
    record f {
      nodes = map (row_by inner) (map (row_at sites) f.nodes);
      sites = map (place_at sites) f.sites;
      inner = map (inner_by inner) f.inner;
    }

-- the rows of F after those of G, through the sites and the inner names of G
abbrev pub put_under : Big → Big → Big
put_under g f =
    let lower = put_through g.sites g.inner f in
    record {
      nodes = g.nodes ++ lower.nodes;
      edges = g.edges ++ lower.edges;
      sites = lower.sites;
      inner = lower.inner;
      regions = g.regions;
      outer = g.outer;
    }

-- the rows of G after those of F, through the sites of F
abbrev pub put_inside : Big → Big → Big
put_inside f g =
    record {
      nodes = f.nodes ++ map (row_at f.sites) g.nodes;
      edges = f.edges ++ g.edges;
      sites = map (place_at f.sites) g.sites;
      inner = g.inner;
      regions = f.regions;
      outer = set_of name_cmp (f.outer ++ g.outer);
    }

-- F with the outer name made that edge, in front of all edges
abbrev pub closed : Name → ℕ → Big → Big
closed name edge f =
    record f {
      nodes = map (row_closed name edge) f.nodes;
      edges = edge ∷ f.edges;
      inner = map (inner_closed name edge) f.inner;
      outer = filter (λ (other : Name). not (is_eq (name_cmp other name))) f.outer;
    }
