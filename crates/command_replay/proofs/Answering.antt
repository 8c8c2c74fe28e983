-- The answer to an input.
use Rattle.std.proofs.Common.{◌≡◌, ℕ, ◌+◌, ◌≤◌, List, ◌++◌, length, drop, length-append, ap, sym, subst, ◌∙◌, arith}
use Rattle.std.specs.Prelude.{Result, Ok, Err}
use Rattle.bg_answers.specs.Answer.{answer_of}
use Rattle.bg_answers.specs.Promise.{Keeps}
use Rattle.bg_answers.specs.declared.failure.Failure.{Failure}
use Rattle.bg_answers.specs.declared.failure.Failure.TheVariants.{Refused, OutOfMemory}
use Rattle.bg_answers.specs.declared.reply.Reply.{Reply}
use Rattle.bg_base.specs.Bigraph.{IsValidUnder}
use Rattle.bg_base.specs.declared.history.Entry.{Entry}
use Rattle.bg_cond.proofs.DrawnRuns.{system_run_fits}
use Rattle.bg_journal.specs.JournalReading.{BeginsWithJournal, IsBadAt}
use Rattle.bg_journal.specs.JournalText.{journal_text}
use Rattle.bg_journal.specs.Replays.{IsReplayOf}
use Rattle.bg_journal.specs.declared.outcome.Replay.{Replay}
use Rattle.bg_journal.specs.declared.outcome.Replay.TheVariants.{Legal}
use Rattle.bg_rules.specs.Reaction.{HostState}
use Rattle.bg_rules.specs.Systems.{SystemParts, IsSystem}
use Rattle.command_replay.specs.Judging.{Judges}
use Rattle.command_replay.specs.Replay.{IsJournalAndModel, IsReplayAnswer, stopped, replayed, replay_promise}
use Rattle.command_replay.specs.ReplayText.{bad_at}

-- the text of the journal is no longer than the bytes
pub used_within : {bytes : List ℕ} {entries : List Entry} {used : ℕ} → BeginsWithJournal bytes entries used → used ≤ length bytes
used_within {bytes} {entries} {used} begins =
    let long : length bytes ≡ length (journal_text entries) + length (drop used bytes)
    = ap length begins.text_there ∙ length-append (journal_text entries) (drop used bytes) in
    omega (arith, long, begins.text_length)

-- the bytes are the text of the journal and the model behind it
parts_of : {bytes : List ℕ} {entries : List Entry} {used : ℕ} (model : List ℕ) → BeginsWithJournal bytes entries used → model ≡ drop used bytes
    → IsJournalAndModel bytes entries model
parts_of {bytes} {entries} {used} model begins behind = record {
  journal = begins.journal;
  input_is = begins.text_there ∙ ap (λ (m : List ℕ). journal_text entries ++ m) (sym behind);
}

-- what is told of the model behind the journal is told of the input
pub told_behind : {bytes : List ℕ} {entries : List Entry} {used : ℕ} (model : List ℕ) (result : Result Reply Failure) → BeginsWithJournal bytes entries used
    → model ≡ drop used bytes → Judges entries model result → Keeps replay_promise result bytes
told_behind {bytes} {entries} {used} model (Ok reply) begins behind judged =
    subst (IsReplayAnswer bytes) (sym judged.told)
    (replayed {entries = entries} {model = model} {system = judged.system} judged.replay (parts_of model begins behind) judged.described judged.right)
told_behind {bytes} {entries} model (Err (Refused refusal)) begins behind judged = record {
  entries = entries;
  model = model;
  parts = parts_of model begins behind;
  refused = judged;
}
told_behind model (Err OutOfMemory) begins behind judged = tt

-- the bad line is told
pub told_bad : {bytes : List ℕ} {line : ℕ} (reply : Reply) → IsBadAt bytes line → answer_of reply ≡ bad_at line → IsReplayAnswer bytes (answer_of reply)
told_bad {bytes} reply bad is = subst (IsReplayAnswer bytes) (sym is) (stopped bad)

-- the host of a legal replay is valid under the signature
pub legal_fits : (system : SystemParts) (replay : Replay) (host : HostState) → IsSystem system → (entries : List Entry) × IsReplayOf system entries replay
    → replay ≡ Legal host → IsValidUnder system.signature host.big
legal_fits system replay host is some same =
    system_run_fits system is (subst (IsReplayOf system some.0) same some.1)
