use Rattle.command_replay.proofs.Settled.{told_no_run, no_run_unrefused}
use Rattle.command_replay.proofs.laws.no_run_is_told_of_no_run.Goals as goal

pub returns-clause-told : goal.returns-clause-told
returns-clause-told c = told_no_run

pub returns-clause-unrefused : goal.returns-clause-unrefused
returns-clause-unrefused c = no_run_unrefused
