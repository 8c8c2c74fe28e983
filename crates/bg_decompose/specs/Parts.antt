-- The parts of a decomposition, as functions of the host, the pattern and the map.
use Rattle.std.specs.Prelude.{◌≡◌, ℕ, true, not, ◌+◌, Option, Some, None, unwrap_or, option_map, is_some, List, [], ◌∷◌, ◌++◌, length, map, filter}
use Rattle.std.specs.Ordering.{nat_cmp}
use Rattle.std.specs.BTreeMap.{BTreeMap, get}
use Rattle.bg_lists.specs.Lists.{Mem, At}
use Rattle.bg_base.specs.declared.names.Name.{Name}
use Rattle.bg_base.specs.declared.names.Name.TheVariants.{Port}
use Rattle.bg_base.specs.declared.names.Place.{Place}
use Rattle.bg_base.specs.declared.names.Place.TheVariants.{Node, Region}
use Rattle.bg_base.specs.declared.names.Link.{Link}
use Rattle.bg_base.specs.declared.names.Link.TheVariants.{Edge, Outer}
use Rattle.bg_base.specs.declared.big.NodeRow.{NodeRow}
use Rattle.bg_base.specs.declared.big.InnerRow.{InnerRow}
use Rattle.bg_base.specs.declared.big.Big.{Big}
use Rattle.bg_base.specs.Bigraph.{row_of}
use Rattle.bg_base.specs.Elementary.{counted}
use Rattle.bg_rules.specs.Images.{first_child, image_link}
use Rattle.bg_rules.specs.Instantiation.{is_among}
use Rattle.bg_rules.specs.LocalConditions.{image_of}

-- ---- the edges

-- the edge that the link is
abbrev pub edge_in : ℕ → Option Link → ℕ
edge_in other None = other
edge_in other (Some (Edge edge)) = edge
edge_in other (Some (Outer name)) = other

-- the image of the pattern's edge
abbrev pub image_edge : Big → Big → List ℕ → ℕ → ℕ
image_edge host pattern nodes edge = edge_in edge (image_link host pattern nodes (Edge edge))

-- the edges of the host that are no images
abbrev pub edges_left : List ℕ → List ℕ → List ℕ
edges_left edges images = filter (λ (edge : ℕ). not (is_among edge images)) edges

-- ---- the sites of the context

-- the place of the node
abbrev pub place_at : List NodeRow → ℕ → Option Place
place_at rows node = option_map (λ (row : NodeRow). row.parent) (row_of rows node)

-- the place in which the image of the first node in the region lies
abbrev pub site_place : Big → Big → List ℕ → ℕ → Place
site_place host pattern nodes region =
    unwrap_or
    (unwrap_or (option_map (λ (row : NodeRow). place_at host.nodes (image_of pattern nodes row.id)) (first_child pattern (Region region))) None)
    (Region region)

-- ---- the inner names of the context

-- the pattern's outer name, with the image of its link
abbrev pub outer_row : Big → Big → List ℕ → Name → InnerRow
outer_row host pattern nodes name =
    record { name = name; link = unwrap_or (image_link host pattern nodes (Outer name)) (Outer name) }

-- the names of the ports, from that one on, each with the link of the port
abbrev pub port_rows : ℕ → ℕ → List Link → List InnerRow
port_rows node port [] = []
port_rows node port (link ∷ links) = record { name = Port node port; link = link } ∷ port_rows node (port + 1) links

-- the names of the ports of all rows
abbrev pub all_port_rows : List NodeRow → List InnerRow
all_port_rows [] = []
all_port_rows (row ∷ rows) = port_rows row.id 0 row.links ++ all_port_rows rows

-- ---- the rows of the parameter

-- each node in which a site lies, with the number of its site
pub record IsSiteTable (places : List Place) (table : BTreeMap ℕ ℕ) : Type 0 where
  pub right : (node site : ℕ) → get nat_cmp table node ≡ Some site → At (Node node) site places
  pub there : (node : ℕ) → Mem (Node node) places → is_some (get nat_cmp table node) ≡ true

-- a node with a site is cut: in its place is the region of the site
abbrev pub cut_place : BTreeMap ℕ ℕ → Place → Place
cut_place table (Node node) = unwrap_or (option_map Region (get nat_cmp table node)) (Node node)
cut_place table (Region region) = Region region

abbrev pub cut_row : BTreeMap ℕ ℕ → NodeRow → NodeRow
cut_row table row =
    record {
      id = row.id;
      control = row.control;
      parent = cut_place table row.parent;
      links = map (λ port. Outer (Port row.id port)) (counted 0 (length row.links));
    }
