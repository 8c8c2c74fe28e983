use Rattle.bg_cases.proofs.NeededConditions.{each_met, all_met, needed}
use Rattle.bg_cases.proofs.laws.each_local_condition_is_needed.Goals as goal

pub returns-clause-conditions : goal.returns-clause-conditions
returns-clause-conditions c = λ host pattern nodes. (each_met host pattern nodes, all_met host pattern nodes)

pub returns-clause-needed : goal.returns-clause-needed
returns-clause-needed c = needed
