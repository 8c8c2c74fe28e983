use Rattle.std.proofs.Common.{ap, length, ◌∙◌}
use Rattle.command_trial.proofs.Totals.{counts_length}
use Rattle.command_trial.proofs.summary.summary_of.Goals as goal

pub put_front-requires : goal.put_front-requires
put_front-requires g c =
    ap length c.as_slice.ensures.value
    ∙ counts_length c.args.system.now.init.big c.args.system.now.rules c.in_ok-counts.counts.items c.in_ok-counts.ensures
