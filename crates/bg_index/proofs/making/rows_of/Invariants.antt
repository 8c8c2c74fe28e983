use Rattle.std.proofs.Common.{◌≡◌, take}
use Rattle.bg_index.specs.Indexed.{rows_of}
use Rattle.bg_index.proofs.making.rows_of.Given as goal

abbrev pub invariant-loop-slot : goal.invariant-loop-slot
invariant-loop-slot l = l.made.items ≡ rows_of l.nodes (take l.slot-index l.slots)
