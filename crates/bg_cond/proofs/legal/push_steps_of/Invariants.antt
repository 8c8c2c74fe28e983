use Rattle.std.proofs.Common.{length}
use Rattle.bg_cond.proofs.FirstSteps.{AreFound}
use Rattle.bg_cond.proofs.legal.push_steps_of.Given as goal

abbrev pub invariant-loop-alloc : goal.invariant-loop-alloc
invariant-loop-alloc g l = AreFound l.most (g.H.NumberedHost.state l.host) l.fn._rules l.fn.rule.class l.number l.fn.rule l.walk l.steps.items

abbrev pub decreases-loop-alloc : goal.decreases-loop-alloc
decreases-loop-alloc g l = length l.walk
