-- `match` has an answer to each model.
use Rattle.std.proofs.Common.{ℕ, Bool, List, ⊎_elim}
use Rattle.bg_answers.specs.Answer.{Answer}
use Rattle.bg_answers.specs.Described.{IsModel}
use Rattle.bg_answers.specs.declared.status.Status.TheVariants.{Done, TooMany}
use Rattle.bg_elab.proofs.Described.{described_is_system}
use Rattle.bg_match_text.proofs.SomeText.{some_text}
use Rattle.bg_match_text.specs.Counts.{excess_line}
use Rattle.command_match.proofs.Excess.{first_or_few}
use Rattle.command_match.specs.Match.{listed, too_many, IsMatchOf}

pub some_answer : (most : ℕ) (explain : Bool) (input : List ℕ) → IsModel input → (answer : Answer) × IsMatchOf most explain input answer
some_answer most explain input is =
    let system = is.system in
    let whole = described_is_system input system is.described in
    let text = some_text system explain whole in
    ⊎_elim
    (λ few. (
      record { status = Done; text = text.0 },
      record { system = system; described = is.described; answers = listed few text.1 },
    ))
    (λ first. (
      record { status = TooMany; text = excess_line first.0 first.1 most },
      record { system = system; described = is.described; answers = too_many first.2 },
    ))
    (first_or_few most system whole)
