-- `trial` has one status for each model, and one answer.
use Rattle.std.proofs.Common.{◌≡◌, ℕ, List, sym, ap, subst, ◌∙◌}
use Rattle.bg_answers.proofs.Models.{one_system, one_refusal, no_system}
use Rattle.bg_answers.proofs.Statuses.{done_is_no_refusal}
use Rattle.bg_answers.specs.Answer.{Answer}
use Rattle.bg_answers.specs.Promise.{IsRightAnswer, made, refused, IsSettled}
use Rattle.bg_answers.specs.Refusal.{refusing}
use Rattle.bg_elab.proofs.Described.{described_is_system}
use Rattle.bg_rules.specs.Systems.{SystemParts}
use Rattle.command_trial.proofs.OneText.{one_text}
use Rattle.command_trial.specs.Trial.{IsTrialOf, trial_promise}
use Rattle.command_trial.specs.TrialText.{IsTrialText}

pub trial_settled : (size : ℕ) → IsSettled (trial_promise size)
trial_settled size =
    record {
      one_status = λ input one other first second. first.0 ∙ sym second.0;
      no_refusal = λ input answer made. done_is_no_refusal answer.status made.0;
      refused_unmade = λ input answer refusal made refused. no_system input made.1.described refused;
      refused_unaccepted = λ input refusal accepted refused. no_system input accepted.described refused;
    }

one_trial : (size : ℕ) (model one other : List ℕ) → IsTrialOf size model one → IsTrialOf size model other → one ≡ other
one_trial size model one other first second =
    let same = one_system model second.described first.described in
    one_text size first.system one other (described_is_system model first.system first.described) first.written
    (subst (λ (s : SystemParts). IsTrialText size s other) same second.written)

pub one_answer : (size : ℕ) (model : List ℕ) (one other : Answer) → IsRightAnswer (trial_promise size) model one
    → IsRightAnswer (trial_promise size) model other → one ≡ other
one_answer size model one other (made first) (made second) =
    let status = first.0 ∙ sym second.0 in
    let text = one_trial size model one.text other.text first.1 second.1 in
    ap (λ s. record { status = s; text = one.text }) status ∙ ap (λ t. record { status = other.status; text = t }) text
one_answer size model one other (made first) (refused second) = absurd (no_system model first.1.described second)
one_answer size model one other (refused first) (made second) = absurd (no_system model second.1.described first)
one_answer size model one other (refused {refusal = refusal} first) (refused {refusal = twin} second) =
    ap refusing (one_refusal model refusal twin first second)
