use Rattle.command_models.proofs.Settled.{check_settled, show_settled}
use Rattle.command_models.proofs.laws.texts_of_models_are_settled.Goals as goal

pub returns-clause-check : goal.returns-clause-check
returns-clause-check c = check_settled

pub returns-clause-show : goal.returns-clause-show
returns-clause-show c = show_settled
