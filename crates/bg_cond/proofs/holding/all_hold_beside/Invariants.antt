use Rattle.bg_cond.specs.Sides.{HoldsInHost}
use Rattle.bg_cond.proofs.Upto.{HoldsUpto}
use Rattle.bg_cond.proofs.holding.all_hold_beside.Given as goal

abbrev pub invariant-loop-number : goal.invariant-loop-number
invariant-loop-number g l = HoldsUpto (HoldsInHost (g.H.HostLookup.big l.host) l.images) l.conditions l.number
