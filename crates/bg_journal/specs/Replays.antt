-- What a journal is of a system: a run from its first host, or one up to an entry that is not taken.
use Rattle.std.specs.Prelude.{◌≢◌, ℕ, List, take}
use Rattle.bg_lists.specs.Lists.{At}
use Rattle.bg_base.specs.declared.history.Entry.{Entry}
use Rattle.bg_base.specs.declared.history.Step.{Step}
use Rattle.bg_cond.specs.Steps.{IsRun, IsTooLarge, step_of}
use Rattle.bg_cond.specs.Verdicts.{IsJudged}
use Rattle.bg_cond.specs.declared.verdict.Verdict.TheVariants.{Legal as LegalStep}
use Rattle.bg_journal.specs.declared.outcome.Replay.{Replay}
use Rattle.bg_journal.specs.declared.outcome.Replay.TheVariants.{Legal, Illegal}
use Rattle.bg_journal.specs.declared.outcome.Why.{Why}
use Rattle.bg_journal.specs.declared.outcome.Why.TheVariants.{Judged, TooLarge}
use Rattle.bg_rules.specs.Reaction.{HostState}
use Rattle.bg_rules.specs.Rules.{RuleParts}
use Rattle.bg_rules.specs.Systems.{SystemParts}

-- why the step is not taken at the host: the verdict on it is right, and is that it is not legal; or its result passes a limit
abbrev pub IsReason : HostState → List RuleParts → Step → Why → Type 0
IsReason host rules step (Judged verdict) = IsJudged host rules step verdict × (verdict ≢ LegalStep)
IsReason host rules step TooLarge = IsTooLarge host rules step

-- the entries before that number are a run from the host, and the step of the entry of that number is not taken behind them,
-- for that reason
pub record IsFirstNotTaken (rules : List RuleParts) (host : HostState) (entries : List Entry) (number : ℕ) (why : Why) : Type 0 where
  pub entry : Entry
  pub there : At entry number entries
  pub before : HostState
  pub run : IsRun rules host (take number entries) before
  pub reason : IsReason before rules (step_of entry) why

-- what the entries are of the system: a run from its first host to that host, or one up to the first entry that is not taken
abbrev pub IsReplayOf : SystemParts → List Entry → Replay → Type 0
IsReplayOf system entries (Legal host) = IsRun system.rules system.init entries host
IsReplayOf system entries (Illegal step why) = IsFirstNotTaken system.rules system.init entries step why
