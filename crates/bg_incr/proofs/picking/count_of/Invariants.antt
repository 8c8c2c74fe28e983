use Rattle.bg_incr.proofs.PickLaws.{IsCounted}
use Rattle.bg_incr.proofs.picking.count_of.Given as goal

abbrev pub invariant-loop-number : goal.invariant-loop-number
invariant-loop-number l = IsCounted l.class l.rules l.lists l.number l.count
