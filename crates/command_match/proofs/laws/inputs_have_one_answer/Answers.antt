use Rattle.command_match.proofs.OneAnswer.{one_right}
use Rattle.command_match.proofs.laws.inputs_have_one_answer.Goals as goal

pub returns : goal.returns
returns c = one_right
