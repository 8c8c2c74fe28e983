-- `compose` has one status for each input.
use Rattle.std.proofs.Common.{◌≡◌, List, ℕ, Err, sym, ◌∙◌}
use Rattle.bg_answers.proofs.Statuses.{done_is_no_refusal}
use Rattle.bg_answers.specs.Promise.{IsSettled}
use Rattle.bg_answers.specs.declared.refusal.Refusal.{Refusal}
use Rattle.command_compose.specs.Compose.{IsComposition, composed, compose_promise}
use Rattle.command_compose.proofs.Law.{composed_of}

not_refused : (input output : List ℕ) (refusal : Refusal) → IsComposition input output → composed input ≡ Err refusal → ⊥
not_refused input output refusal is refused = let same = composed_of input output is in absurd cc

pub compose_settled : IsSettled compose_promise
compose_settled =
    record {
      one_status = λ input one other first second. first.0 ∙ sym second.0;
      no_refusal = λ input answer made. done_is_no_refusal answer.status made.0;
      refused_unmade = λ input answer refusal made refused. not_refused input answer.text refusal made.1 refused;
      refused_unaccepted = λ input refusal accepted refused. not_refused input accepted.output refusal accepted.composition refused;
    }
