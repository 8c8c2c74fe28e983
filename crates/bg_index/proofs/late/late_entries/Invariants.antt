use Rattle.bg_index.proofs.LateLaws.{AreSeen}
use Rattle.bg_index.proofs.late.late_entries.Given as goal

abbrev pub invariant-loop-entry : goal.invariant-loop-entry
invariant-loop-entry l = AreSeen l.entries l.entry-index l.seen.keys l.late.items
