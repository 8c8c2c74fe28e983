use Rattle.bg_journal.proofs.Replayed.{one_replay, legal_of_runs}
use Rattle.bg_journal.proofs.laws.journals_come_to_one_thing.Goals as goal

pub returns-clause-one : goal.returns-clause-one
returns-clause-one c = one_replay

pub returns-clause-runs : goal.returns-clause-runs
returns-clause-runs c = legal_of_runs
