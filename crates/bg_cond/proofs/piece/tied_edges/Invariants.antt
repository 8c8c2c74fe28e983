use Rattle.std.proofs.Common.{◌≡◌, ◌++◌, drop}
use Rattle.bg_cond.specs.Pieces.{tied_edges}
use Rattle.bg_cond.proofs.piece.tied_edges.Given as goal

abbrev pub invariant-loop-row : goal.invariant-loop-row
invariant-loop-row l = l.edges.items ++ tied_edges (drop l.row-index l.rows) ≡ tied_edges l.rows
