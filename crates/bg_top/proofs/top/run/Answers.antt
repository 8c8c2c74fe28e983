use Rattle.std.proofs.Common.{◌≡◌, ◌+◌, Some, true, false, rules}
use Rattle.bg_io.specs.Transfers.{ConsumesExactly}
use Rattle.bg_answers.specs.Answer.{too_long}
use Rattle.bg_top.specs.Words.{asked}
use Rattle.bg_words.specs.Commands.{is_reading}
use Rattle.bg_top.specs.Numbers.{most_bytes}
use Rattle.bg_top.proofs.Right.{ended_under, ended_with, right_too_long, right_unread}
use Rattle.bg_top.proofs.top.run.Goals as goal

pub returns-in-Err-TooLong-clause-ended : goal.returns-in-Err-TooLong-clause-ended
returns-in-Err-TooLong-clause-ended g c =
    let left = g.S.Source.left in
    let before = left c.args.source.now in
    let after = left c.read_all.new.source in
    let request = c.in-Ok.asked in
    let is : asked c.args.words.now ≡ Some request = c.in-Ok.ensures.given in
    let given : ConsumesExactly before after (most_bytes + 1) = search rules in
    let reading : is_reading request.command ≡ true = search rules in
    ended_with _ too_long _ _ _ _ _ _ _ (right_too_long most_bytes (asked c.args.words.now) request _ before after is reading given)
    c.respond-in-Err-TooLong.ensures.ended

pub returns-then-not-is_reading-clause-ended : goal.returns-then-not-is_reading-clause-ended
returns-then-not-is_reading-clause-ended g c =
    let left = g.S.Source.left c.args.source.now in
    let request = c.in-Ok.asked in
    let is : asked c.args.words.now ≡ Some request = c.in-Ok.ensures.given in
    let unread : is_reading request.command ≡ false = search rules in
    ended_under _ _ _ ⊥ _ _ _ _ _ _ _ (λ answer right. right_unread most_bytes (asked c.args.words.now) request _ _ left answer is unread right.0 right.1)
    (λ never. absurd never) (λ kept. kept) c.answer.ensures.ended
