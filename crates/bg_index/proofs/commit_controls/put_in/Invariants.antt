use Rattle.std.proofs.Common.{map, take}
use Rattle.bg_index.specs.declared.entries.NodeEntry.{NodeEntry}
use Rattle.bg_index.specs.Commits.{AreFrom, HasMore, control_key}
use Rattle.bg_index.proofs.commit_controls.put_in.Given as goal

abbrev pub invariant-loop-entry : goal.invariant-loop-entry
invariant-loop-entry l = AreFrom control_key (HasMore (map (λ (entry : NodeEntry). entry.row) (take l.entry-index l.entries))) l.initial.controls.items l.controls.items
