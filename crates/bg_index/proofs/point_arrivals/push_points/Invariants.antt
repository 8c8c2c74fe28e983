use Rattle.std.proofs.Common.{◌≡◌, ◌++◌, take, map}
use Rattle.bg_index.specs.Arrivals.{arrival_point}
use Rattle.bg_index.proofs.point_arrivals.push_points.Given as goal

abbrev pub invariant-loop-arrival : goal.invariant-loop-arrival
invariant-loop-arrival l = l.points.items ≡ l.initial.points.items ++ map arrival_point (take l.arrival-index l.arrivals)
