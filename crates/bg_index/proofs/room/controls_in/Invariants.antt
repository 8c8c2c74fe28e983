use Rattle.std.proofs.Common.{◌≡◌, take, map}
use Rattle.bg_index.specs.declared.entries.NodeEntry.{NodeEntry}
use Rattle.bg_index.proofs.room.controls_in.Given as goal

abbrev pub invariant-loop-entry : goal.invariant-loop-entry
invariant-loop-entry l = l.made.items ≡ map (λ (entry : NodeEntry). entry.row.control) (take l.entry-index l.entries)
