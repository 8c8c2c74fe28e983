use Rattle.command_replay.proofs.Settled.{one_right}
use Rattle.command_replay.proofs.laws.inputs_have_one_answer.Goals as goal

pub returns : goal.returns
returns c = one_right
