use Rattle.std.proofs.Common.{◌≡◌, take, map}
use Rattle.bg_algebra.specs.Halves.{control_row}
use Rattle.bg_algebra.proofs.halves.control_rows.Given as goal

abbrev pub invariant-loop-row : goal.invariant-loop-row
invariant-loop-row l = l.rows.items ≡ map control_row (take l.row-index l.nodes)
