use Rattle.std.proofs.Common.{◌≡◌, ◌++◌, drop}
use Rattle.bg_index.specs.PortNodes.{port_nodes}
use Rattle.bg_index.proofs.touched.note_points.Given as goal

abbrev pub invariant-loop-point : goal.invariant-loop-point
invariant-loop-point l = l.nodes.items ++ port_nodes (drop l.point-index l.points) ≡ l.initial.nodes.items ++ port_nodes l.points
