use Rattle.std.proofs.Common.{◌≡◌, take, vec_capacity}
use Rattle.bg_index.specs.Plans.{points_left}
use Rattle.bg_index.proofs.leaving_points.take_nodes.Given as goal

abbrev pub invariant-loop-node : goal.invariant-loop-node
invariant-loop-node l = record {
  kept : l.points.items ≡ points_left (take l.node-index l.gone) l.initial.points.items;
  capacity : vec_capacity l.points ≡ vec_capacity l.initial.points;
}
