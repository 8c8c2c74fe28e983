use Rattle.std.proofs.Common.{◌≤◌, length, drop}
use Rattle.bg_base.proofs.SignatureLaws.{IsNumberingFrom}
use Rattle.bg_base.proofs.signature.numbers_of.Given as goal

abbrev pub invariant-loop-at : goal.invariant-loop-at
invariant-loop-at l = (l.at ≤ length l.controls) × IsNumberingFrom l.at l.numbers (drop l.at l.controls)

abbrev pub decreases-loop-at : goal.decreases-loop-at
decreases-loop-at l = l.at
