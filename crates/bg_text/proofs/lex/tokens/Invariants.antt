use Rattle.std.proofs.Common.{◌-◌, ◌≤◌, length}
use Rattle.bg_text.proofs.Cutting.{GoesOn}
use Rattle.bg_text.proofs.lex.tokens.Given as goal

abbrev pub invariant-loop-at : goal.invariant-loop-at
invariant-loop-at l = record { inside : l.at ≤ length l.bytes; on : GoesOn l.bytes l.tokens.items l.at }

abbrev pub decreases-loop-at : goal.decreases-loop-at
decreases-loop-at l = length l.bytes - l.at
