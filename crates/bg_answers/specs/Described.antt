-- The system that a model describes, as a command reads it.
use Rattle.std.specs.Prelude.{◌≡◌, ℕ, List, Result, Ok, Err}
use Rattle.bg_elab.specs.declared.fault.Detail.{Detail}
use Rattle.bg_elab.specs.declared.fault.ModelFault.TheVariants.{Bad}
use Rattle.bg_elab.specs.Reading.{IsReading}
use Rattle.bg_rules.specs.Systems.{SystemParts}
use Rattle.bg_text.specs.Places.{line_at, column_at}
use Rattle.bg_answers.specs.declared.failure.Failure.{Failure}
use Rattle.bg_answers.specs.declared.failure.Failure.TheVariants.{Refused, OutOfMemory}
use Rattle.bg_answers.specs.declared.refusal.Refusal.{Refusal}
use Rattle.bg_answers.specs.declared.refusal.Refusal.TheVariants.{Model}

-- the input is an accepted model: it describes a system
pub record IsModel (input : List ℕ) : Type 0 where
  pub system : SystemParts
  pub described : IsReading input (Ok system)

-- the refusal at that byte of the input, by line and column
abbrev pub refused_at : List ℕ → ℕ → Detail → ℕ → Refusal
refused_at input code detail offset = Model code detail (line_at input offset) (column_at input offset)

-- the input is no model: it is refused by that code, at that line and column
pub record IsRefusedModel (input : List ℕ) (refusal : Refusal) : Type 0 where
  pub code : ℕ
  pub detail : Detail
  pub offset : ℕ
  pub refused : IsReading input (Err (Bad code detail offset))
  pub refusal_is : refusal ≡ refused_at input code detail offset

-- a call gives the system that the input describes, or the refusal, or found no memory
abbrev pub Describes : Result SystemParts Failure → List ℕ → Type 0
Describes (Ok system) input = IsReading input (Ok system)
Describes (Err (Refused refusal)) input = IsRefusedModel input refusal
Describes (Err OutOfMemory) input = Unit {0}
