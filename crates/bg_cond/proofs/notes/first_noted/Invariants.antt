use Rattle.std.proofs.Common.{◌≡◌, false}
use Rattle.bg_cond.specs.Lists.{is_noted}
use Rattle.bg_cond.proofs.Upto.{HoldsUpto}
use Rattle.bg_cond.proofs.notes.first_noted.Given as goal

abbrev pub invariant-loop-node : goal.invariant-loop-node
invariant-loop-node l = HoldsUpto (λ node. is_noted l.notes node ≡ false) l.nodes l.node-index
