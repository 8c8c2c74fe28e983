use Rattle.command_match.proofs.SomeAnswer.{some_answer}
use Rattle.command_match.proofs.laws.models_have_an_answer.Goals as goal

pub returns : goal.returns
returns c = some_answer
