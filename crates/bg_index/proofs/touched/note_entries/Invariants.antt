use Rattle.std.proofs.Common.{◌≡◌, ◌++◌, map, take}
use Rattle.bg_index.specs.declared.entries.NodeEntry.{NodeEntry}
use Rattle.bg_index.proofs.touched.note_entries.Given as goal

abbrev pub invariant-loop-entry : goal.invariant-loop-entry
invariant-loop-entry l = l.nodes.items ≡ l.initial.nodes.items ++ map (λ (entry : NodeEntry). entry.row.id) (take l.entry-index l.entries)
