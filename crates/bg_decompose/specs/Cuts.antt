-- What a split makes: the parts of a decomposition, as functions of the host, the pattern and the map.
use Rattle.std.specs.Prelude.{◌≡◌, ℕ, List, [], ◌++◌, length, map, filter}
use Rattle.std.specs.BTreeMap.{BTreeMap}
use Rattle.bg_base.specs.declared.big.Big.{Big}
use Rattle.bg_base.specs.Elementary.{counted}
use Rattle.bg_base.specs.Translation.{place_renamed}
use Rattle.bg_rules.specs.Decomposition.{names_of}
use Rattle.bg_decompose.specs.Marks.{is_outside, is_inside}
use Rattle.bg_decompose.specs.Parts.{image_edge, edges_left, site_place, outer_row, all_port_rows, IsSiteTable, cut_row}

abbrev pub edge_images : Big → Big → List ℕ → List ℕ
edge_images host pattern nodes = map (image_edge host pattern nodes) pattern.edges

abbrev pub context : Big → Big → List ℕ → Big
context host pattern nodes =
    record {
      nodes = filter (is_outside host nodes) host.nodes;
      edges = edges_left host.edges (edge_images host pattern nodes);
      sites = map (site_place host pattern nodes) (counted 0 pattern.regions);
      inner = map (outer_row host pattern nodes) pattern.outer ++ all_port_rows (filter (is_inside host nodes) host.nodes);
      regions = host.regions;
      outer = host.outer;
    }

abbrev pub parameter : Big → Big → List ℕ → BTreeMap ℕ ℕ → Big
parameter host pattern nodes table =
    record {
      nodes = map (cut_row table) (filter (is_inside host nodes) host.nodes);
      edges = [];
      sites = [];
      inner = [];
      regions = length pattern.sites;
      outer = names_of (map (cut_row table) (filter (is_inside host nodes) host.nodes));
    }

-- these are the parts of the host
pub record IsCut (host pattern : Big) (nodes : List ℕ) (above : Big) (edges : List ℕ) (below : Big) : Type 0 where
  pub table : BTreeMap ℕ ℕ
  pub sites : IsSiteTable (map (place_renamed pattern nodes) pattern.sites) table
  pub edges_are : edges ≡ edge_images host pattern nodes
  pub context_is : above ≡ context host pattern nodes
  pub parameter_is : below ≡ parameter host pattern nodes table
