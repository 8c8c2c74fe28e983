-- What `trial` promises of the model that it makes.
use Rattle.std.specs.Prelude.{◌≡◌, ℕ, List, Ok}
use Rattle.bg_answers.specs.Described.{IsModel, IsRefusedModel}
use Rattle.bg_answers.specs.Promise.{Promise}
use Rattle.bg_answers.specs.declared.status.Status.TheVariants.{Done}
use Rattle.bg_elab.specs.Reading.{IsReading}
use Rattle.bg_rules.specs.Systems.{SystemParts}
use Rattle.command_trial.specs.TrialText.{IsTrialText}

-- the text is that of the system that the model describes
pub record IsTrialOf (size : ℕ) (model text : List ℕ) : Type 0 where
  pub system : SystemParts
  pub described : IsReading model (Ok system)
  pub written : IsTrialText size system text

-- `trial` answers with the text of a trial, at that size, of the system that the model describes
abbrev pub trial_promise : ℕ → Promise
trial_promise size =
    record {
      accepts = IsModel;
      refuses = IsRefusedModel;
      makes = λ model answer. (answer.status ≡ Done) × IsTrialOf size model answer.text;
    }
