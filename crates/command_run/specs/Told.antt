-- What is written of a run that came to its end.
use Rattle.std.specs.Prelude.{ℕ, List}
use Rattle.bg_runs.specs.declared.finishing.FinishedRun.{FinishedRun}
use Rattle.bg_watch.specs.Watching.{Watched}
use Rattle.command_run.specs.RunText.{IsTextOf, HaveWatched}

-- the text is that of the run, of which the watchers were told, and these stay
pub record IsToldRun (run : FinishedRun) (watchers stay : List Watched) (text : List ℕ) : Type 0 where
  pub lines : List ℕ
  pub written : IsTextOf run.system run.journal run.end lines run.host text
  pub watched : HaveWatched run.system run.journal watchers stay lines
