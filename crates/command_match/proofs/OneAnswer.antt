-- `match` has one answer to each model, and one status for each input.
use Rattle.std.proofs.Common.{◌≡◌, ◌≢◌, ℕ, Bool, List, ap, subst, ◌∙◌}
use Rattle.bg_answers.proofs.Models.{one_system, one_refusal, no_system}
use Rattle.bg_answers.specs.Answer.{Answer}
use Rattle.bg_answers.specs.Promise.{IsRightAnswer, made, refused, IsSettled}
use Rattle.bg_answers.specs.Refusal.{refusing}
use Rattle.bg_answers.specs.declared.status.Status.TheVariants.{Done, TooMany, Refused, WrongWords, TooLong}
use Rattle.bg_elab.proofs.Described.{described_is_system}
use Rattle.bg_match_text.proofs.OneText.{one_text}
use Rattle.bg_match_text.specs.Counts.{excess_line}
use Rattle.bg_rules.specs.Systems.{SystemParts, IsSystem}
use Rattle.command_match.proofs.Excess.{few_or_first, one_first}
use Rattle.command_match.specs.Match.{IsMatchAnswer, listed, too_many, IsMatchOf, match_promise}

-- of a system
one_of_system : (most : ℕ) (explain : Bool) (system : SystemParts) {one other : Answer} → IsSystem system → IsMatchAnswer most explain system one
    → IsMatchAnswer most explain system other → one ≡ other
one_of_system most explain system is (listed {text = text} few first) (listed {text = other} also second) =
    ap (λ t. record { status = Done; text = t }) (one_text system explain text other is first second)
one_of_system most explain system is (listed few first) (too_many second) = absurd (few_or_first most system few second)
one_of_system most explain system is (too_many first) (listed few second) = absurd (few_or_first most system few first)
one_of_system most explain system is (too_many {number = number} {rule = rule} first) (too_many {number = number2} {rule = rule2} second) =
    let same = one_first most system number number2 rule rule2 first second in
    ap (λ n. record { status = TooMany; text = excess_line n rule most }) same.0
    ∙ ap (λ r. record { status = TooMany; text = excess_line number2 r most }) same.1

pub one_answer : (most : ℕ) (explain : Bool) (input : List ℕ) (one other : Answer) → IsMatchOf most explain input one
    → IsMatchOf most explain input other → one ≡ other
one_answer most explain input one other first second =
    let same = one_system input first.described second.described in
    one_of_system most explain second.system (described_is_system input second.system second.described)
    (subst (λ s. IsMatchAnswer most explain s one) same first.answers) second.answers

-- right answers to one input, of models and of others
pub one_right : (most : ℕ) (explain : Bool) (input : List ℕ) (one other : Answer) → IsRightAnswer (match_promise most explain) input one
    → IsRightAnswer (match_promise most explain) input other → one ≡ other
one_right most explain input one other (made first) (made second) = one_answer most explain input one other first second
one_right most explain input one other (made first) (refused second) = absurd (no_system input first.described second)
one_right most explain input one other (refused first) (made second) = absurd (no_system input second.described first)
one_right most explain input one other (refused {refusal = refusal} first) (refused {refusal = also} second) =
    ap refusing (one_refusal input refusal also first second)

no_refusal : {most : ℕ} {explain : Bool} {system : SystemParts} {answer : Answer} → IsMatchAnswer most explain system answer
    → (answer.status ≢ Refused) × (answer.status ≢ WrongWords) × (answer.status ≢ TooLong)
no_refusal (listed few text) = ((λ e. absurd cc), (λ e. absurd cc), (λ e. absurd cc))
no_refusal (too_many first) = ((λ e. absurd cc), (λ e. absurd cc), (λ e. absurd cc))

pub match_settled : (most : ℕ) (explain : Bool) → IsSettled (match_promise most explain)
match_settled most explain =
    record {
      one_status = λ input one other first second. ap (λ (a : Answer). a.status) (one_answer most explain input one other first second);
      no_refusal = λ input answer made. no_refusal made.answers;
      refused_unmade = λ input answer refusal made refused. no_system input made.described refused;
      refused_unaccepted = λ input refusal accepted refused. no_system input accepted.described refused;
    }
