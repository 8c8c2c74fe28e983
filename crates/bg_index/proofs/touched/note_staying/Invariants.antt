use Rattle.std.proofs.Common.{◌≡◌, ◌++◌, drop}
use Rattle.bg_index.specs.Plans.{points_left}
use Rattle.bg_index.specs.PortNodes.{port_nodes}
use Rattle.bg_index.proofs.touched.note_staying.Given as goal

abbrev pub invariant-loop-point : goal.invariant-loop-point
invariant-loop-point l =
    l.nodes.items ++ port_nodes (points_left l.gone (drop l.point-index l.points)) ≡ l.initial.nodes.items ++ port_nodes (points_left l.gone l.points)
