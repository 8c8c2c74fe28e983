-- A pattern with its nodes and edges renumbered, beside the identity on names of ports: what a decomposition puts
-- between its context and its parameter, as one value.
use Rattle.std.specs.Prelude.{ℕ, Bool, true, false, List, ◌++◌, map}
use Rattle.std.specs.Ordering.{nat_cmp}
use Rattle.bg_lists.specs.Lists.{sort}
use Rattle.bg_lists.specs.Orders.{before}
use Rattle.bg_base.specs.declared.names.Name.{Name}
use Rattle.bg_base.specs.declared.names.Name.TheVariants.{Plain, Port, Opened}
use Rattle.bg_base.specs.declared.big.Big.{Big}
use Rattle.bg_base.specs.Bigraph.{node_cmp}
use Rattle.bg_base.specs.Elementary.{row_to_itself}
use Rattle.bg_base.specs.Translation.{place_renamed, row_renamed}

-- a name that a user wrote
abbrev pub is_plain : Name → Bool
is_plain (Plain word) = true
is_plain (Port node index) = false
is_plain (Opened edge) = false

-- the name of a port of a node
abbrev pub is_port : Name → Bool
is_port (Plain word) = false
is_port (Port node index) = true
is_port (Opened edge) = false

-- the pattern with these numbers for its nodes and edges, and these names of ports passed on
abbrev pub framed : Big → List ℕ → List ℕ → List Name → Big
framed pattern nodes edges names =
    record {
      nodes = sort (before node_cmp) (map (row_renamed pattern nodes edges) pattern.nodes);
      edges = sort (before nat_cmp) edges;
      sites = map (place_renamed pattern nodes) pattern.sites;
      inner = map row_to_itself names;
      regions = pattern.regions;
      outer = pattern.outer ++ names;
    }
