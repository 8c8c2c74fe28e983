use Rattle.bg_index.specs.Copying.{AreCopied}
use Rattle.bg_index.specs.Readings.{boundary_of}
use Rattle.bg_index.proofs.new_rows.push_copies.Given as goal

abbrev pub invariant-loop-at : goal.invariant-loop-at
invariant-loop-at l = AreCopied l.host l.rule l.map (boundary_of l.reading) l.at l.free l.rows.items
