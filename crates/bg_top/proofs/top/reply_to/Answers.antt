use Rattle.bg_top.proofs.Right.{run_stays}
use Rattle.bg_top.proofs.top.reply_to.Goals as goal

pub returns-in-Run-clause-stay : goal.returns-in-Run-clause-stay
returns-in-Run-clause-stay g c = run_stays c.args.request _ _ c.args.input.now c.answer_run.result c.in-Run.is c.answer_run.ensures.stay
