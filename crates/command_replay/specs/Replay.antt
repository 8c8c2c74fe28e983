-- What `replay` promises: what the journal in front of its input is of the system that is described behind it.
use Rattle.std.specs.Prelude.{◌≡◌, ℕ, List, ◌++◌, Ok}
use Rattle.bg_answers.specs.Answer.{Answer}
use Rattle.bg_answers.specs.Described.{IsModel, IsRefusedModel}
use Rattle.bg_answers.specs.Promise.{Promise}
use Rattle.bg_answers.specs.declared.refusal.Refusal.{Refusal}
use Rattle.bg_base.specs.declared.history.Entry.{Entry}
use Rattle.bg_cond.specs.Steps.{IsRun}
use Rattle.bg_elab.specs.Reading.{IsReading}
use Rattle.bg_journal.specs.JournalReading.{IsJournal, IsBadAt}
use Rattle.bg_journal.specs.JournalText.{journal_text}
use Rattle.bg_journal.specs.Replays.{IsReplayOf}
use Rattle.bg_journal.specs.declared.outcome.Replay.{Replay}
use Rattle.bg_listing.specs.Stops.{HasText}
use Rattle.bg_rules.specs.Reaction.{HostState}
use Rattle.bg_rules.specs.Systems.{SystemParts}
use Rattle.command_replay.specs.ReplayText.{telling, bad_at}

-- the input is the text of a journal with these entries, and behind it that model
pub record IsJournalAndModel (input : List ℕ) (entries : List Entry) (model : List ℕ) : Type 0 where
  pub journal : IsJournal entries
  pub input_is : input ≡ journal_text entries ++ model

-- the model behind the journal is accepted: it describes a system
pub record IsAccepted (input : List ℕ) : Type 0 where
  pub entries : List Entry
  pub model : List ℕ
  pub parts : IsJournalAndModel input entries model
  pub accepted : IsModel model

-- the model behind the journal is refused, its place counted from its own first byte
pub record IsRefusedBehind (input : List ℕ) (refusal : Refusal) : Type 0 where
  pub entries : List Entry
  pub model : List ℕ
  pub parts : IsJournalAndModel input entries model
  pub refused : IsRefusedModel model refusal

-- the line at which the input stops being the text of a journal; or what the journal is of the system that the model describes
pub data IsReplayAnswer (input : List ℕ) : Answer → Type 0 where
  stopped : {line : ℕ} → IsBadAt input line → IsReplayAnswer input (bad_at line)
  replayed : {entries : List Entry} {model : List ℕ} {system : SystemParts} (replay : Replay) → IsJournalAndModel input entries model
      → IsReading model (Ok system) → IsReplayOf system entries replay → IsReplayAnswer input (telling system.signature replay)

-- `replay` tells whether the journal of the input is one of the system that the model behind it describes
abbrev pub replay_promise : Promise
replay_promise =
    record {
      accepts = IsAccepted;
      refuses = IsRefusedBehind;
      makes = IsReplayAnswer;
    }

-- no text of a journal stands in front of the input; or its journal is no run of the system that the model describes
pub data IsNoRun (input : List ℕ) : Type 0 where
  no_journal : ¬ HasText journal_text IsJournal input → IsNoRun input
  no_run : {entries : List Entry} {model : List ℕ} {system : SystemParts} → IsJournalAndModel input entries model
      → IsReading model (Ok system) → ((host : HostState) → ¬ IsRun system.rules system.init entries host) → IsNoRun input
