use Rattle.std.proofs.Common.{◌≡◌, take, map}
use Rattle.bg_link.specs.Rows.{rank_of}
use Rattle.bg_link.proofs.points.ranks.Given as goal

abbrev pub invariant-loop-row : goal.invariant-loop-row
invariant-loop-row l = l.made.items ≡ map rank_of (take l.row-index l.rows)
