use Rattle.std.proofs.Common.{◌≡◌, ◌++◌, take}
use Rattle.bg_index.specs.Indexed.{edges_of}
use Rattle.bg_index.proofs.causes.note_used.Given as goal

abbrev pub invariant-loop-entry : goal.invariant-loop-entry
invariant-loop-entry l = l.edges.items ≡ l.initial.edges.items ++ edges_of (take l.entry-index l.used)
