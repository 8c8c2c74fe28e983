use Rattle.bg_answers.proofs.Answered.{answered}
use Rattle.command_match.specs.Match.{match_promise}
use Rattle.command_match.proofs.answer.answer_match.Goals as goal

pub returns : goal.returns
returns g c =
    answered (match_promise c.args.most c.args.explain) c.args.input.now c.reply-made.result c.of.result c.reply-made.ensures c.of.ensures
