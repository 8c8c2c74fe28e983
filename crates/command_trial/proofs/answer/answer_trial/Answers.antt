use Rattle.std.proofs.Common.{◌≡◌, ◌∙◌, ◌<◌, ℕ, List, length, sym, subst, IfOk}
use Rattle.bg_answers.proofs.Answered.{answered}
use Rattle.bg_answers.specs.Answer.{answer_of}
use Rattle.bg_answers.specs.Promise.{IsRightAnswer}
use Rattle.bg_answers.specs.declared.reply.Reply.{Reply}
use Rattle.bg_lists.specs.declared.memory.OutOfMemory.{OutOfMemory}
use Rattle.command_trial.specs.Model.{trial_model}
use Rattle.command_trial.specs.Trial.{trial_promise}
use Rattle.command_trial.proofs.Size.{model_small}
use Rattle.command_trial.proofs.answer.answer_trial.Goals as goal

pub reply-made-requires : goal.reply-made-requires
reply-made-requires g c =
    (c.type_bounds.sync-R, subst (λ (xs : List ℕ). length xs < 4294967295) (sym (c.as_slice.ensures.value ∙ c.in_ok-model.ensures)) (model_small c.args.size c.requires.1))

pub returns : goal.returns
returns g c =
    let is : c.as_slice.result.now ≡ trial_model c.args.size = c.as_slice.ensures.value ∙ c.in_ok-model.ensures in
    subst (λ (xs : List ℕ). IfOk c.of.result (λ (reply : Reply). IsRightAnswer (trial_promise c.args.size) xs (answer_of reply))) is
    (answered {E = OutOfMemory} (trial_promise c.args.size) c.as_slice.result.now c.reply-made.result c.of.result c.reply-made.ensures c.of.ensures)
