use Rattle.std.proofs.Common.{◌≡◌, ◌++◌, take}
use Rattle.bg_index.specs.Arrivals.{arrived_from}
use Rattle.bg_index.proofs.point_arrivals.push_rows.Given as goal

abbrev pub invariant-loop-row : goal.invariant-loop-row
invariant-loop-row l = l.made.items ≡ l.initial.made.items ++ arrived_from l.host.big.outer (take l.row-index l.rows)
