use Rattle.std.proofs.Common.{◌≡◌, ◌++◌, drop}
use Rattle.bg_cond.specs.Pieces.{tied_names}
use Rattle.bg_cond.proofs.piece.tied_names.Given as goal

abbrev pub invariant-loop-row : goal.invariant-loop-row
invariant-loop-row l = l.names.items ++ tied_names (drop l.row-index l.rows) ≡ tied_names l.rows
