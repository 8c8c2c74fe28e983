use Rattle.bg_incr.proofs.PickLaws.{IsLeft}
use Rattle.bg_incr.proofs.picking.step_at.Given as goal

abbrev pub invariant-loop-number : goal.invariant-loop-number
invariant-loop-number l = IsLeft l.class l.rules l.lists l.place l.number l.left
