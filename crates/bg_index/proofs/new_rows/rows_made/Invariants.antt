use Rattle.std.proofs.Common.{◌≡◌, take, map}
use Rattle.bg_rewriting.specs.Rewriting.{row_made}
use Rattle.bg_index.specs.Readings.{boundary_of}
use Rattle.bg_index.proofs.new_rows.rows_made.Given as goal

abbrev pub invariant-loop-row : goal.invariant-loop-row
invariant-loop-row l = l.made.items ≡ map (row_made l.host l.rule (boundary_of l.reading)) (take l.row-index l.rows)
