-- Runs by workers that were finished on the calling thread.
use Rattle.std.specs.Prelude.{◌≡◌, ℕ, ◌-◌, List, ◌++◌, length}
use Rattle.bg_base.specs.declared.history.Entry.{Entry}
use Rattle.bg_cond.specs.Drawn.{Draws, IsEndOf}
use Rattle.bg_cond.specs.Picks.{seeded}
use Rattle.bg_cond.specs.Steps.{IsRun}
use Rattle.bg_cond.specs.declared.commits.Closed.{Closed}
use Rattle.bg_rules.specs.Systems.{SystemParts}
use Rattle.bg_runs.specs.declared.finishing.FinishedRun.{FinishedRun}
use Rattle.bg_seats.specs.Histories.{GrowsByOthers, WorkersBelow}
use Rattle.bg_workers.specs.Working.{IsEnded, IsOwn, IsDrawn}
use Rattle.bg_workers.specs.declared.ends.Ended.{Ended}
use Rattle.bg_workers.specs.declared.ends.Ended.TheVariants.{Quiet, Limit, Full}
use Rattle.rand_pcg.specs.Lcg.{Lcg}

-- what was run is a run of the system by so many workers, of at most so many entries, with its end; with one worker it is the
-- run that the seed draws
pub record IsFinished (system : SystemParts) (limit workers seed : ℕ) (run : FinishedRun) : Type 0 where
  pub same : run.system ≡ system
  pub run_is : IsRun system.rules system.init run.journal run.host
  pub end_is : IsEndOf system.rules limit run.journal run.host run.end
  pub below : WorkersBelow workers run.journal
  pub drawn : workers ≡ 1 → Draws system.rules 0 limit system.init (seeded seed 0) run.journal run.end run.host

-- worker 0 ended so, when it had seen a beginning of the journal that has all its entries
pub record CameFrom (system : SystemParts) (limit seed : ℕ) (journal : List Entry) (ended : Ended) : Type 0 where
  pub seen : List Entry
  pub grows : GrowsByOthers 0 seen journal
  pub right : IsEnded system limit seen ended
  pub drawn : IsOwn 0 seen → IsDrawn system limit 0 (seeded seed 0) seen ended

-- the worker ended after so many entries, or at the limit and these are as many
abbrev pub IsAt : Ended → ℕ → ℕ → Type 0
IsAt (Quiet version) count limit = version ≡ count
IsAt Limit count limit = count ≡ limit
IsAt (Full version step) count limit = version ≡ count

-- the run goes on from what is closed, to so many entries at most, with the words of the generator from that state on
pub record IsDrawnOn (closed : Closed) (limit : ℕ) (state : Lcg) (run : FinishedRun) : Type 0 where
  pub same : run.system ≡ closed.system
  pub rest : List Entry
  pub drawn : Draws closed.system.rules 0 (limit - length closed.journal) closed.host state rest run.end run.host
  pub appended : run.journal ≡ closed.journal ++ rest
