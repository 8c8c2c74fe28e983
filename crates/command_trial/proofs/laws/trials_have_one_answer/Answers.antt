use Rattle.command_trial.proofs.Settled.{one_answer}
use Rattle.command_trial.proofs.laws.trials_have_one_answer.Goals as goal

pub returns : goal.returns
returns c = one_answer
