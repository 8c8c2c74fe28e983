use Rattle.bg_answers.proofs.Answered.{answered}
use Rattle.command_replay.specs.Replay.{replay_promise}
use Rattle.command_replay.proofs.answer.answer_replay.Goals as goal

pub returns : goal.returns
returns c = answered replay_promise c.args.input.now c.answer.result c.of.result c.answer.ensures c.of.ensures
