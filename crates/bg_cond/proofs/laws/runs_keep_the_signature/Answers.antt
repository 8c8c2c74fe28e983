use Rattle.bg_cond.proofs.DrawnRuns.{system_run_fits}
use Rattle.bg_cond.proofs.laws.runs_keep_the_signature.Goals as goal

pub returns : goal.returns
returns c = λ system entries after is run. system_run_fits system is run
