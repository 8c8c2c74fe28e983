use Rattle.std.proofs.Common.{◌≡◌, ◌++◌, drop}
use Rattle.bg_index.specs.Telling.{entries_filled}
use Rattle.bg_index.proofs.causes.note_filled.Given as goal

abbrev pub invariant-loop-entry : goal.invariant-loop-entry
invariant-loop-entry l = l.nodes.items ++ entries_filled (drop l.entry-index l.entries) ≡ l.initial.nodes.items ++ entries_filled l.entries
