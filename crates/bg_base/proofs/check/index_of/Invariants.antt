use Rattle.std.proofs.Common.{◌≤◌, length, drop}
use Rattle.bg_base.specs.Lookup.{IsIndexOf}
use Rattle.bg_base.proofs.check.index_of.Given as goal

abbrev pub invariant-loop-at : goal.invariant-loop-at
invariant-loop-at l = (l.at ≤ length l.rows) × IsIndexOf l.index l.rows (drop l.at l.rows)

abbrev pub decreases-loop-at : goal.decreases-loop-at
decreases-loop-at l = l.at
