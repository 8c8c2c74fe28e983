use Rattle.command_run.proofs.Settled.{run_settled}
use Rattle.command_run.proofs.laws.runs_are_settled.Goals as goal

pub returns : goal.returns
returns c = run_settled
