-- Where the points of a node stand among points that ascend.
use Rattle.std.specs.Prelude.{ℕ, Bool, false, nat_lt, nat_le}
use Rattle.bg_link.specs.declared.graph.Point.{Point}
use Rattle.bg_link.specs.declared.graph.Point.TheVariants.{Port, Inner}

-- the point is a port of a node below that
abbrev pub is_before : ℕ → Point → Bool
is_before node (Port own index) = nat_lt own node
is_before node (Inner name) = false

-- the point is a port of that node or of one below
abbrev pub is_up_to : ℕ → Point → Bool
is_up_to node (Port own index) = nat_le own node
is_up_to node (Inner name) = false
