use Rattle.std.proofs.Common.{rules, arith}
use Rattle.bg_io.proofs.Turns.{Appends-turn}
use Rattle.bg_io.proofs.whole.write_all.Goals as goal

pub loop-count-preserved : goal.loop-count-preserved
loop-count-preserved g c =
    let before = c.loop-count.invariant in
    record {
      within = search rules;
      sent = Appends-turn _ _ _ c.loop-count.count c.in_ok-count.field-0 c.args.bytes.now (search rules) before.sent c.in_ok-count.ensures.bytes;
      same = omega (arith, before.same, c.in_ok-count.ensures.cause.stays (λ e. cc));
    }
