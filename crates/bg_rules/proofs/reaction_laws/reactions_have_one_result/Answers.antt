use Rattle.bg_rules.proofs.Reactions.{some_result, recomposable, one_result, result_numbered}
use Rattle.bg_rules.proofs.Signed.{result_valid_under}
use Rattle.bg_rules.proofs.reaction_laws.reactions_have_one_result.Goals as goal

pub returns-clause-some_result : goal.returns-clause-some_result
returns-clause-some_result c = some_result

pub returns-clause-one_result : goal.returns-clause-one_result
returns-clause-one_result c = one_result

pub returns-clause-defined : goal.returns-clause-defined
returns-clause-defined c = recomposable

pub returns-clause-numbered : goal.returns-clause-numbered
returns-clause-numbered c = result_numbered

pub returns-clause-fits : goal.returns-clause-fits
returns-clause-fits c = result_valid_under
