use Rattle.bg_answers.proofs.Answered.{answered}
use Rattle.command_models.specs.Models.{check_promise}
use Rattle.command_models.proofs.answers.answer_check.Goals as goal

pub returns : goal.returns
returns c = answered check_promise c.args.input.now c.check.result c.of.result c.check.ensures c.of.ensures
