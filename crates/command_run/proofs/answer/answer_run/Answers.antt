use Rattle.std.proofs.Common.{refl}
use Rattle.command_run.proofs.Answering.{refusal_right, run_right}
use Rattle.command_run.proofs.answer.answer_run.Goals as goal

pub returns-in-Err-clause-right : goal.returns-in-Err-clause-right
returns-in-Err-clause-right g c =
    refusal_right c.args.most c.args.workers c.args.seed _ c.args.input.now c.in-Err.failure c.refusal_of.result (rw c.in-Err.is at c.system_of.ensures)
    c.refusal_of.ensures

pub returns-clause-right : goal.returns-clause-right
returns-clause-right g c =
    run_right c.args.most c.args.workers c.args.seed _ c.args.input.now c.in-Ok.system _ _ (rw c.in-Ok.is at c.system_of.ensures) c.in_ok-text.ensures.text refl
