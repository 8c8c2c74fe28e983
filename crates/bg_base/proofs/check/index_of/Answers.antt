use Rattle.std.proofs.Common.{arith}
use Rattle.bg_base.proofs.IndexLaws.{index_turn}
use Rattle.bg_base.proofs.check.index_of.Goals as goal

pub loop-at-preserved : goal.loop-at-preserved
loop-at-preserved c = (
  omega arith,
  index_turn c.args.rows.now c.loop-at.at c.loop-at.index c.insert.new.self c.index-rows-at.result (omega arith) (omega arith)
      c.index-rows-at.is c.loop-at.invariant.1 (rw (← c.index-rows-at.is) at c.in_ok-insert.ensures.updates.0),
)
