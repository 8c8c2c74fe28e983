use Rattle.std.proofs.Common.{arith}
use Rattle.bg_base.proofs.SignatureLaws.{numbering_turn}
use Rattle.bg_base.proofs.signature.numbers_of.Goals as goal

pub loop-at-preserved : goal.loop-at-preserved
loop-at-preserved c = (
  omega arith,
  numbering_turn c.args.controls.now c.loop-at.at c.loop-at.numbers c.insert.new.self c.index-controls-at.result (omega arith) (omega arith)
      c.index-controls-at.is c.loop-at.invariant.1
      (rw (c.in_ok-copy.ensures, ← c.index-controls-at.is) at c.in_ok-insert.ensures.updates.0),
)
