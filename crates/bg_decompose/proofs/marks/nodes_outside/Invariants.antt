use Rattle.std.proofs.Common.{◌≡◌, take, filter}
use Rattle.bg_decompose.specs.Marks.{AreMarked, is_outside}
use Rattle.bg_decompose.proofs.marks.nodes_outside.Given as goal

abbrev pub invariant-loop-row : goal.invariant-loop-row
invariant-loop-row l = (l.made.items ≡ filter (is_outside l.host l.images) (take l.row-index l.rows)) × AreMarked l.host l.images l.marks
