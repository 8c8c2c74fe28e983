use Rattle.std.proofs.Common.{take}
use Rattle.bg_index.specs.Indexed.{AreSorted}
use Rattle.bg_index.proofs.controls.controls_of.Given as goal

abbrev pub invariant-loop-row : goal.invariant-loop-row
invariant-loop-row l = AreSorted (take l.row-index l.rows) l.made.items
