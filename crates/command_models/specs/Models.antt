-- What commands promise that make a text of the system that their input describes.
use Rattle.std.specs.Prelude.{◌≡◌, ℕ, List, Ok}
use Rattle.bg_answers.specs.Described.{IsModel, IsRefusedModel}
use Rattle.bg_answers.specs.Promise.{Promise}
use Rattle.bg_answers.specs.declared.status.Status.TheVariants.{Done}
use Rattle.bg_elab.specs.Reading.{IsReading}
use Rattle.bg_rules.specs.Systems.{SystemParts}
use Rattle.bg_show_text.specs.SystemText.{system_text}
use Rattle.command_models.specs.Check.{check_text}

-- the text of the system that the input describes
pub record IsTextOfSystem (text_of : SystemParts → List ℕ) (input text : List ℕ) : Type 0 where
  pub system : SystemParts
  pub described : IsReading input (Ok system)
  pub text_is : text ≡ text_of system

-- a command answers with that text of the system that its input describes
abbrev pub text_promise : (SystemParts → List ℕ) → Promise
text_promise text_of =
    record {
      accepts = IsModel;
      refuses = IsRefusedModel;
      makes = λ input answer. (answer.status ≡ Done) × IsTextOfSystem text_of input answer.text;
    }

-- `check` tells how much there is of everything
abbrev pub check_promise : Promise
check_promise = text_promise check_text

-- `show` lists the system
abbrev pub show_promise : Promise
show_promise = text_promise system_text
