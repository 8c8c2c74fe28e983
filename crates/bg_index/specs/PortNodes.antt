-- The nodes on a link, by its points.
use Rattle.std.specs.Prelude.{ℕ, ◌+◌, ◌≤◌, List, [], ◌∷◌, ◌++◌, length}
use Rattle.std.specs.Ordering.{nat_cmp}
use Rattle.bg_lists.specs.Orders.{set_of}
use Rattle.bg_link.specs.declared.graph.Point.{Point}
use Rattle.bg_link.specs.declared.graph.Point.TheVariants.{Port, Inner}

-- the node of the point, if it is a port
abbrev pub port_node : Point → List ℕ
port_node (Port node index) = node ∷ []
port_node (Inner name) = []

-- the nodes of the ports among the points, one for each port
abbrev pub port_nodes : List Point → List ℕ
port_nodes [] = []
port_nodes (point ∷ points) = port_node point ++ port_nodes points

-- the nodes that have ports among the points, ascending, each once
abbrev pub nodes_on : List Point → List ℕ
nodes_on points = set_of nat_cmp (port_nodes points)

-- points that are kept with the nodes on them, and for how many of either there is memory
pub record KeptPoints : Type 0 where
  pub items : List Point
  pub point_capacity : ℕ
  pub node_capacity : ℕ

-- there is memory for these besides, and for their nodes
pub record HasRoomBeside (kept : KeptPoints) (arriving : List Point) : Type 0 where
  pub points : length kept.items + length arriving ≤ kept.point_capacity
  pub nodes : length (nodes_on kept.items) + length (nodes_on arriving) ≤ kept.node_capacity
