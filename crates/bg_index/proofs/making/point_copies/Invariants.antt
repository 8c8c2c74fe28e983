use Rattle.std.proofs.Common.{◌≡◌, take}
use Rattle.bg_index.proofs.making.point_copies.Given as goal

abbrev pub invariant-loop-point : goal.invariant-loop-point
invariant-loop-point l = l.made.items ≡ take l.point-index l.points
