use Rattle.bg_answers.proofs.Answered.{answered}
use Rattle.command_compose.specs.Compose.{compose_promise}
use Rattle.command_compose.proofs.answer.answer_compose.Goals as goal

pub returns : goal.returns
returns c = answered compose_promise c.args.input.now c.reply.result c.of.result c.reply.ensures c.of.ensures
