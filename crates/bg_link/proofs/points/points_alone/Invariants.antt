use Rattle.std.proofs.Common.{◌≡◌, map}
use Rattle.bg_link.specs.Rows.{point_alone}
use Rattle.bg_link.proofs.points.points_alone.Given as goal

abbrev pub invariant-loop-row : goal.invariant-loop-row
invariant-loop-row l = l.made.items ≡ map point_alone l.yielded
