-- `run` has one status for each input, and with one worker one answer.
use Rattle.std.proofs.Common.{◌≡◌, ℕ, List, sym, ap, subst, ◌∙◌}
use Rattle.bg_answers.proofs.Models.{one_system, one_refusal, no_system}
use Rattle.bg_answers.proofs.Statuses.{done_is_no_refusal}
use Rattle.bg_answers.specs.Answer.{Answer}
use Rattle.bg_answers.specs.Promise.{IsRightAnswer, made, refused, IsSettled}
use Rattle.bg_answers.specs.Refusal.{refusing}
use Rattle.bg_elab.proofs.Described.{described_is_system}
use Rattle.bg_rules.specs.Systems.{SystemParts}
use Rattle.bg_watch.specs.Watching.{Watched}
use Rattle.command_run.proofs.OneText.{one_text}
use Rattle.command_run.specs.Run.{IsRunOf, run_promise}
use Rattle.command_run.specs.RunText.{IsRunText}

pub run_settled : (most workers seed : ℕ) (watchers : List Watched) → IsSettled (run_promise most workers seed watchers)
run_settled most workers seed watchers =
    record {
      one_status = λ input one other first second. first.0 ∙ sym second.0;
      no_refusal = λ input answer made. done_is_no_refusal answer.status made.0;
      refused_unmade = λ input answer refusal made refused. let run = made.2 in no_system input run.described refused;
      refused_unaccepted = λ input refusal accepted refused. no_system input accepted.described refused;
    }

one_of_run : (most seed : ℕ) (watchers stay stay2 : List Watched) (input one other : List ℕ) → IsRunOf most 1 seed watchers stay input one
    → IsRunOf most 1 seed watchers stay2 input other → one ≡ other
one_of_run most seed watchers stay stay2 input one other first second =
    let same = one_system input second.described first.described in
    one_text first.system most seed watchers stay stay2 one other (described_is_system input first.system first.described) first.written
    (subst (λ (s : SystemParts). IsRunText s most 1 seed watchers stay2 other) same second.written)

pub one_answer : (most seed : ℕ) (watchers : List Watched) (input : List ℕ) (one other : Answer) → IsRightAnswer (run_promise most 1 seed watchers) input one
    → IsRightAnswer (run_promise most 1 seed watchers) input other → one ≡ other
one_answer most seed watchers input one other (made first) (made second) =
    let status = first.0 ∙ sym second.0 in
    let text = one_of_run most seed watchers first.1 second.1 input one.text other.text first.2 second.2 in
    ap (λ s. record { status = s; text = one.text }) status ∙ ap (λ t. record { status = other.status; text = t }) text
one_answer most seed watchers input one other (made first) (refused second) = let run = first.2 in absurd (no_system input run.described second)
one_answer most seed watchers input one other (refused first) (made second) = let run = second.2 in absurd (no_system input run.described first)
one_answer most seed watchers input one other (refused {refusal = refusal} first) (refused {refusal = twin} second) =
    ap refusing (one_refusal input refusal twin first second)
