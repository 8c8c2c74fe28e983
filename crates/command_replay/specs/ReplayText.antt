-- What is written of a replay.
use Rattle.std.specs.Prelude.{ℕ, List, ◌++◌, codes}
use Rattle.std.specs.Fmt.{decimal}
use Rattle.bg_answers.specs.Answer.{Answer}
use Rattle.bg_answers.specs.declared.status.Status.{Status}
use Rattle.bg_answers.specs.declared.status.Status.TheVariants.{Done, NoRun}
use Rattle.bg_base.specs.declared.signature.Control.{Control}
use Rattle.bg_cond.specs.declared.verdict.Verdict.{Verdict}
use Rattle.bg_cond.specs.declared.verdict.Verdict.TheVariants as verdicts
use Rattle.bg_cond.specs.declared.verdict.Verdict.TheVariants.{NoRule, NotEmbedding, ConditionFails, HigherClass}
use Rattle.bg_journal.specs.JournalText.{step_text, host_text}
use Rattle.bg_journal.specs.declared.outcome.Replay.{Replay}
use Rattle.bg_journal.specs.declared.outcome.Replay.TheVariants.{Legal, Illegal}
use Rattle.bg_journal.specs.declared.outcome.Why.{Why}
use Rattle.bg_journal.specs.declared.outcome.Why.TheVariants.{Judged, TooLarge}
use Rattle.bg_rules.specs.Reaction.{HostState}

-- ---- texts

-- the verdict on a step, and the line feed; no entry stops at a step that is legal
unfoldable pub verdict_text : Verdict → List ℕ
verdict_text verdicts.Legal = codes "Legal\n"
verdict_text NoRule = codes "NoRule\n"
verdict_text NotEmbedding = codes "NotEmbedding\n"
verdict_text (ConditionFails number) = codes "ConditionFails " ++ (decimal number ++ codes "\n")
verdict_text (HigherClass step) = codes "HigherClass " ++ step_text step.rule step.map

-- why an entry is not taken, and the line feed
abbrev pub why_text : Why → List ℕ
why_text (Judged verdict) = verdict_text verdict
why_text TooLarge = codes "TooLarge\n"

-- the line of the first entry that is not taken, counted from 0
unfoldable pub illegal_line : ℕ → Why → List ℕ
illegal_line step why = codes "illegal " ++ (decimal step ++ (codes " " ++ why_text why))

-- the line `legal`, and the last host
unfoldable pub legal_text : List Control → HostState → List ℕ
legal_text signature host = codes "legal\n" ++ host_text signature host

-- the line at which the input stops being the text of a journal
unfoldable pub bad_line_text : ℕ → List ℕ
bad_line_text line = codes "journal at " ++ (decimal line ++ codes "\n")

-- ---- answers

-- the status of a replay: whether the journal was taken to its end
abbrev pub replay_status : Replay → Status
replay_status (Legal host) = Done
replay_status (Illegal step why) = NoRun

-- the text of a replay: the last host, or the first entry that is not taken and why
abbrev pub replay_text : List Control → Replay → List ℕ
replay_text signature (Legal host) = legal_text signature host
replay_text signature (Illegal step why) = illegal_line step why

-- the answer that tells the replay
abbrev pub telling : List Control → Replay → Answer
telling signature replay = record { status = replay_status replay; text = replay_text signature replay }

-- the answer that tells the bad line
abbrev pub bad_at : ℕ → Answer
bad_at line = record { status = NoRun; text = bad_line_text line }
