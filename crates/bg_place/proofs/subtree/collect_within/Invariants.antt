use Rattle.std.proofs.Common.{◌≡◌, map, filter, take}
use Rattle.bg_place.specs.declared.graph.ParentRow.{ParentRow}
use Rattle.bg_place.specs.Places.{node_number, is_within}
use Rattle.bg_base.specs.Climbing.{AreMarks}
use Rattle.bg_place.specs.Rows.{lies_at}
use Rattle.bg_place.proofs.subtree.collect_within.Given as goal

abbrev pub invariant-loop-row : goal.invariant-loop-row
invariant-loop-row l =
    (l.nodes.items ≡ map node_number (filter (λ (row : ParentRow). is_within l.rows l.node row.node) (take l.row-index l.rows)))
    × AreMarks (lies_at l.rows l.node) l.marks
