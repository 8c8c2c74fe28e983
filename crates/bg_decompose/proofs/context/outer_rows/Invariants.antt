use Rattle.std.proofs.Common.{◌≡◌, take, map}
use Rattle.bg_decompose.specs.Parts.{outer_row}
use Rattle.bg_decompose.proofs.context.outer_rows.Given as goal

abbrev pub invariant-loop-name : goal.invariant-loop-name
invariant-loop-name l = l.made.items ≡ map (outer_row l.host l.pattern l.map) (take l.name-index l.names)
