-- What `run` promises: a run of the system that its input describes.
use Rattle.std.specs.Prelude.{◌≡◌, ◌≢◌, ℕ, List, Ok}
use Rattle.bg_answers.specs.Answer.{Answer}
use Rattle.bg_answers.specs.Described.{IsModel, IsRefusedModel}
use Rattle.bg_answers.specs.Promise.{Promise}
use Rattle.bg_answers.specs.declared.status.Status.TheVariants.{Done}
use Rattle.bg_elab.specs.Reading.{IsReading}
use Rattle.bg_rules.specs.Systems.{SystemParts}
use Rattle.bg_watch.specs.Watching.{Watched}
use Rattle.command_run.specs.RunText.{IsRunText}

-- the text is that of a run of the system that the input describes, of which the watchers were told, and these stay
pub record IsRunOf (most workers seed : ℕ) (watchers stay : List Watched) (input text : List ℕ) : Type 0 where
  pub system : SystemParts
  pub described : IsReading input (Ok system)
  pub written : IsRunText system most workers seed watchers stay text

-- at most so many steps, by so many workers, drawn with that seed, of which these watchers are told
abbrev pub run_promise : ℕ → ℕ → ℕ → List Watched → Promise
run_promise most workers seed watchers =
    record {
      accepts = IsModel;
      refuses = IsRefusedModel;
      makes = λ input answer. (answer.status ≡ Done) × (stay : List Watched) × IsRunOf most workers seed watchers stay input answer.text;
    }

-- what became of the watchers where this was answered: after a run they were told of it, else they are as they were
pub record HaveStayed (most workers seed : ℕ) (watchers stay : List Watched) (input : List ℕ) (answer : Answer) : Type 0 where
  pub told : answer.status ≡ Done → IsRunOf most workers seed watchers stay input answer.text
  pub kept : answer.status ≢ Done → stay ≡ watchers
