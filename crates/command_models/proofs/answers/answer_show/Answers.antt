use Rattle.bg_answers.proofs.Answered.{answered}
use Rattle.command_models.specs.Models.{show_promise}
use Rattle.command_models.proofs.answers.answer_show.Goals as goal

pub returns : goal.returns
returns c = answered show_promise c.args.input.now c.show.result c.of.result c.show.ensures c.of.ensures
