-- A command that makes a text of each model has one status for each input.
use Rattle.std.proofs.Common.{◌≡◌, List, ℕ, sym, ◌∙◌}
use Rattle.bg_answers.proofs.Models.{no_system}
use Rattle.bg_answers.proofs.Statuses.{done_is_no_refusal}
use Rattle.bg_answers.specs.Promise.{IsSettled}
use Rattle.bg_rules.specs.Systems.{SystemParts}
use Rattle.bg_show_text.specs.SystemText.{system_text}
use Rattle.command_models.specs.Check.{check_text}
use Rattle.command_models.specs.Models.{text_promise, check_promise, show_promise}

text_settled : (text_of : SystemParts → List ℕ) → IsSettled (text_promise text_of)
text_settled text_of =
    record {
      one_status = λ input one other first second. first.0 ∙ sym second.0;
      no_refusal = λ input answer made. done_is_no_refusal answer.status made.0;
      refused_unmade = λ input answer refusal made refused. no_system input made.1.described refused;
      refused_unaccepted = λ input refusal accepted refused. no_system input accepted.described refused;
    }

pub check_settled : IsSettled check_promise
check_settled = text_settled check_text

pub show_settled : IsSettled show_promise
show_settled = text_settled system_text
