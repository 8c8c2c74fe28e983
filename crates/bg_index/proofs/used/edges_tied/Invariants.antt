use Rattle.std.proofs.Common.{◌≡◌, ◌++◌, drop}
use Rattle.bg_index.specs.Tied.{edges_tied}
use Rattle.bg_index.proofs.used.edges_tied.Given as goal

abbrev pub invariant-loop-row : goal.invariant-loop-row
invariant-loop-row l = l.edges.items ++ edges_tied (drop l.row-index l.rows) ≡ edges_tied l.rows
