use Rattle.std.proofs.Common.{rules, arith}
use Rattle.bg_io.proofs.Turns.{Consumes-turn}
use Rattle.bg_io.proofs.whole.fill.Goals as goal

pub loop-count-preserved : goal.loop-count-preserved
loop-count-preserved g c =
    let before = c.loop-count.invariant in
    record {
      within = search rules;
      given = Consumes-turn _ _ _ c.loop-count.count c.in_ok-given.given _ c.loop-count.buf c.read.new.buf before.within
          c.in_ok-given.ensures.bound.0 before.given c.in_ok-given.ensures.bytes.0;
      same = omega (arith, before.same, c.in_ok-given.ensures.cause.stays);
      reads = omega arith;
    }
