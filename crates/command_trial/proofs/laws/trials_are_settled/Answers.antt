use Rattle.command_trial.proofs.Settled.{trial_settled}
use Rattle.command_trial.proofs.laws.trials_are_settled.Goals as goal

pub returns : goal.returns
returns c = trial_settled
