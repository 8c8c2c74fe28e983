use Rattle.std.proofs.Common.{◌≡◌, ◌++◌, take, map}
use Rattle.bg_base.specs.Translation as translation
use Rattle.bg_algebra.proofs.renumbering.push_renamed.Given as goal

abbrev pub invariant-loop-row : goal.invariant-loop-row
invariant-loop-row l = l.made.items ≡ l.initial.made.items ++ map (translation.row_renamed l.big l.nodes l.edges) (take l.row-index l.rows)
