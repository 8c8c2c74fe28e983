use Rattle.std.proofs.Common.{List, map, take}
use Rattle.std.specs.List.Sorted.{IsStrictlySortedBy}
use Rattle.bg_base.specs.declared.big.NodeRow.{NodeRow}
use Rattle.bg_index.specs.declared.entries.NodeEntry.{NodeEntry}
use Rattle.bg_index.specs.Commits.{AreRoomy}
use Rattle.bg_index.specs.Indexed.{AreSorted, control_cmp}
use Rattle.bg_index.proofs.room.make_each.Given as goal

abbrev pub invariant-loop-entry : goal.invariant-loop-entry
invariant-loop-entry l = record {
  ascending : IsStrictlySortedBy control_cmp l.controls.items;
  sorted : (rows : List NodeRow) → AreSorted rows l.initial.controls.items → AreSorted rows l.controls.items;
  room : AreRoomy (map (λ (entry : NodeEntry). entry.row) (take l.entry-index l.entries)) (map (λ (entry : NodeEntry). entry.row) l.entries) l.controls.items;
}
