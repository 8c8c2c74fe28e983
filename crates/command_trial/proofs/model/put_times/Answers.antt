use Rattle.command_trial.proofs.Size.{times_next}
use Rattle.command_trial.proofs.model.put_times.Goals as goal

pub loop-preserved : goal.loop-preserved
loop-preserved c =
    times_next c.args.count c.loop.counter c.args.text.now c.loop.out.items c.extend_from_slice.new.self.items _ c.loop-test.true
    c.in_ok-extend_from_slice.ensures.items c.loop.invariant
