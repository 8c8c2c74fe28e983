use Rattle.command_run.proofs.Settled.{one_answer}
use Rattle.command_run.proofs.laws.one_worker_has_one_answer.Goals as goal

pub returns : goal.returns
returns c = one_answer
