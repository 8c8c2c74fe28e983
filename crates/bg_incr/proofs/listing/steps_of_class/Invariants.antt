use Rattle.bg_cond.specs.Found.{IsEnabledBelow}
use Rattle.bg_cond.specs.Steps.{AreFirst}
use Rattle.bg_incr.proofs.listing.steps_of_class.Given as goal

abbrev pub invariant-loop-number : goal.invariant-loop-number
invariant-loop-number l = AreFirst l.most (IsEnabledBelow l.host l.rules l.class l.number) l.steps.items
