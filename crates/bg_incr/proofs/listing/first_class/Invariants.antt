use Rattle.bg_cond.proofs.FirstClass.{IsFirstUpto}
use Rattle.bg_incr.proofs.listing.first_class.Given as goal

abbrev pub invariant-loop-number : goal.invariant-loop-number
invariant-loop-number l = IsFirstUpto l._host l.rules l.number l.first
