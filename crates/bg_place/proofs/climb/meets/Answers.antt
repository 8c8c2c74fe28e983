use Rattle.std.proofs.Common.{sym, arith}
use Rattle.bg_place.proofs.ClimbLaws.{meets_step}
use Rattle.bg_place.proofs.climb.meets.Goals as goal

pub loop-place-preserved : goal.loop-place-preserved
loop-place-preserved c =
    meets_step c.args.rows.now c.loop-place.moves c.in-Node.node c.args.wanted c.in-Some.parent _ (omega arith) (sym c.in-Some.ensures)
    c.if-node-wanted.false (rw c.in-Node.is at c.loop-place.invariant)
