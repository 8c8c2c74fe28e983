use Rattle.std.proofs.Common.{◌≡◌, ◌++◌, ◌+◌, length, drop}
use Rattle.std.specs.Vec.Iter.{into_iter_items, into_iter_len}
use Rattle.bg_algebra.specs.Halves.{joined_rows}
use Rattle.bg_algebra.proofs.halves.joined_nodes.Given as goal

-- the nodes that were made and those of the rows that are left are all
abbrev pub invariant-loop-row : goal.invariant-loop-row
invariant-loop-row l = record {
  whole : l.nodes.items ++ joined_rows (drop (length l.nodes.items) l.parents) (into_iter_items l.rows) (drop (length l.nodes.items) l.controls)
      ≡ joined_rows l.parents l.fn.ports l.controls;
  left : length l.nodes.items + length (into_iter_items l.rows) ≡ length l.parents;
}

abbrev pub decreases-loop-row : goal.decreases-loop-row
decreases-loop-row l = into_iter_len l.rows
