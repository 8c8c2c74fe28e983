use Rattle.std.proofs.Common.{◌≡◌, take, map}
use Rattle.bg_decompose.specs.Parts.{cut_row}
use Rattle.bg_decompose.proofs.parameter.cut_rows.Given as goal

abbrev pub invariant-loop-row : goal.invariant-loop-row
invariant-loop-row l = l.made.items ≡ map (cut_row l.table) (take l.row-index l.rows)
