-- What `match` promises: where the rules of the system that its input describes occur.
use Rattle.std.specs.Prelude.{ℕ, Bool, List, Ok}
use Rattle.bg_answers.specs.Answer.{Answer}
use Rattle.bg_answers.specs.Described.{IsModel, IsRefusedModel}
use Rattle.bg_answers.specs.Promise.{Promise}
use Rattle.bg_answers.specs.declared.status.Status.TheVariants.{Done, TooMany}
use Rattle.bg_elab.specs.Reading.{IsReading}
use Rattle.bg_match_text.specs.Counts.{AreFew, IsFirstExcess, excess_line}
use Rattle.bg_match_text.specs.MatchText.{IsMatchText}
use Rattle.bg_rules.specs.Rules.{RuleParts}
use Rattle.bg_rules.specs.Systems.{SystemParts}

-- the texts of all rules of the system; or the line of the first rule with more occurrences than are asked for
pub data IsMatchAnswer (most : ℕ) (explain : Bool) (system : SystemParts) : Answer → Type 0 where
  listed : {text : List ℕ} → AreFew most system → IsMatchText system explain text
      → IsMatchAnswer most explain system (record { status = Done; text = text })
  too_many : {number : ℕ} {rule : RuleParts} → IsFirstExcess most system number rule
      → IsMatchAnswer most explain system (record { status = TooMany; text = excess_line number rule most })

-- so it is with the system that the input describes
pub record IsMatchOf (most : ℕ) (explain : Bool) (input : List ℕ) (answer : Answer) : Type 0 where
  pub system : SystemParts
  pub described : IsReading input (Ok system)
  pub answers : IsMatchAnswer most explain system answer

-- at most so many occurrences of each rule, explained or not
abbrev pub match_promise : ℕ → Bool → Promise
match_promise most explain =
    record {
      accepts = IsModel;
      refuses = IsRefusedModel;
      makes = IsMatchOf most explain;
    }
