use Rattle.std.proofs.Common.{◌≡◌, ◌≤◌, [], take}
use Rattle.bg_index.specs.Copying.{parts_of}
use Rattle.bg_index.proofs.late.count_late.Given as goal
use Rattle.bg_rewriting.specs.Rewriting.{late_count}

abbrev pub invariant-loop-at : goal.invariant-loop-at
invariant-loop-at l = (l.count ≡ late_count (parts_of l.reading.parts.items) [] (take l.at l.entries)) × (l.count ≤ l.most)
