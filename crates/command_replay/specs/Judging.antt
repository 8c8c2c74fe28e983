-- What the calls give on the way.
use Rattle.std.specs.Prelude.{◌≡◌, ℕ, List, Result, Ok, Err}
use Rattle.bg_answers.specs.Answer.{answer_of}
use Rattle.bg_answers.specs.Described.{IsRefusedModel}
use Rattle.bg_answers.specs.declared.failure.Failure.{Failure}
use Rattle.bg_answers.specs.declared.failure.Failure.TheVariants.{Refused, OutOfMemory}
use Rattle.bg_answers.specs.declared.reply.Reply.{Reply}
use Rattle.bg_base.specs.declared.history.Entry.{Entry}
use Rattle.bg_elab.specs.Reading.{IsReading}
use Rattle.bg_journal.specs.Replays.{IsReplayOf}
use Rattle.bg_journal.specs.declared.outcome.Replay.{Replay}
use Rattle.bg_rules.specs.Systems.{SystemParts}
use Rattle.command_replay.specs.ReplayText.{telling}

-- the reply tells what the entries are of the system that the model describes
pub record IsTelling (entries : List Entry) (model : List ℕ) (reply : Reply) : Type 0 where
  pub system : SystemParts
  pub described : IsReading model (Ok system)
  pub replay : Replay
  pub right : IsReplayOf system entries replay
  pub told : answer_of reply ≡ telling system.signature replay

-- such a reply, or the model's refusal, or want of memory
abbrev pub Judges : List Entry → List ℕ → Result Reply Failure → Type 0
Judges entries model (Ok reply) = IsTelling entries model reply
Judges entries model (Err (Refused refusal)) = IsRefusedModel model refusal
Judges entries model (Err OutOfMemory) = Unit {0}
