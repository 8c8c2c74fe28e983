-- Workers on a host that they share: how one ends, and what it draws where nobody else commits.
use Rattle.std.specs.Prelude.{◌≡◌, ℕ, ◌-◌, ◌<◌, Option, None, Some, List, [], ◌∷◌, ◌++◌, length}
use Rattle.bg_base.specs.declared.history.Step.{Step}
use Rattle.bg_base.specs.declared.history.Entry.{Entry}
use Rattle.bg_cond.specs.Drawn.{IsPick, entry_of, Draws}
use Rattle.bg_cond.specs.Picks.{next_state}
use Rattle.bg_cond.specs.Steps.{HasNoStep, LeadsTo, IsTooLarge, IsRun}
use Rattle.bg_cond.specs.declared.ending.End.{End}
use Rattle.bg_cond.specs.declared.ending.End.TheVariants as run_end
use Rattle.bg_rules.specs.Reaction.{HostState}
use Rattle.bg_rules.specs.Systems.{SystemParts}
use Rattle.bg_seats.specs.Histories.{entries_of}
use Rattle.bg_workers.specs.declared.ends.Ended.{Ended}
use Rattle.bg_workers.specs.declared.ends.Ended.TheVariants.{Quiet, Limit, Full}
use Rattle.rand_pcg.specs.Lcg.{Lcg}

-- the one history goes on from the other
abbrev pub IsLonger : List Entry → List Entry → Type 0
IsLonger before after = (rest : List Entry) × (after ≡ before ++ rest)

-- ---- ends

-- fewer entries were seen than may be, and no step is legal at the host after them
pub record IsQuietAt (system : SystemParts) (limit : ℕ) (seen : List Entry) (version : ℕ) : Type 0 where
  pub number : version ≡ length seen
  pub room : length seen < limit
  pub host : HostState
  pub run : IsRun system.rules system.init seen host
  pub none : HasNoStep host system.rules

-- fewer entries were seen than may be, and what the step leads to from the host after them passes a limit
pub record IsFullAt (system : SystemParts) (limit : ℕ) (seen : List Entry) (version : ℕ) (step : Step) : Type 0 where
  pub number : version ≡ length seen
  pub room : length seen < limit
  pub host : HostState
  pub run : IsRun system.rules system.init seen host
  pub large : IsTooLarge host system.rules step

-- the end is right where these entries were seen
abbrev pub IsEnded : SystemParts → ℕ → List Entry → Ended → Type 0
IsEnded system limit seen (Quiet version) = IsQuietAt system limit seen version
IsEnded system limit seen Limit = length seen ≡ limit
IsEnded system limit seen (Full version step) = IsFullAt system limit seen version step

-- ---- a worker alone

-- all entries are of the worker
abbrev pub IsOwn : ℕ → List Entry → Type 0
IsOwn worker history = entries_of worker history ≡ history

-- a worker's end, as the end of a run
abbrev pub run_end_of : Ended → End
run_end_of (Quiet version) = run_end.Quiet
run_end_of Limit = run_end.Limit
run_end_of (Full version step) = run_end.Full step

-- the entries and the end are those that the generator draws, from the system's first host on
pub record IsDrawn (system : SystemParts) (limit worker : ℕ) (seed : Lcg) (seen : List Entry) (ended : Ended) : Type 0 where
  pub host : HostState
  pub draws : Draws system.rules worker limit system.init seed seen (run_end_of ended) host

-- ---- one turn

-- the step that the generator picks at the host after `before` is the next entry
pub record IsDrawnStep (system : SystemParts) (worker : ℕ) (before : List Entry) (state : Lcg) (after : List Entry) (later : Lcg) : Type 0 where
  pub host : HostState
  pub next : HostState
  pub step : Step
  pub run : IsRun system.rules system.init before host
  pub pick : IsPick host system.rules state step
  pub leads : LeadsTo host system.rules step next
  pub appended : after ≡ before ++ entry_of worker step ∷ []
  pub later_is : later ≡ next_state state

-- nothing came behind `before`, and nothing more is drawn, with that end
pub record IsDrawnEnd (system : SystemParts) (limit worker : ℕ) (before : List Entry) (state : Lcg) (after : List Entry) (ended : Ended) : Type 0 where
  pub same : after ≡ before
  pub host : HostState
  pub run : IsRun system.rules system.init before host
  pub draws : Draws system.rules worker (limit - length before) host state [] (run_end_of ended) host

-- more entries are there now, and one word was taken; where the entries are all of the worker, it has drawn one
pub record GoesOn (system : SystemParts) (limit worker : ℕ) (before : List Entry) (state : Lcg) (after : List Entry) (later : Lcg) : Type 0 where
  pub room : length before < limit
  pub longer : length before < length after
  pub later_is : later ≡ next_state state
  pub drawn : IsOwn worker after → IsDrawnStep system worker before state after later

-- the worker ends; where all entries are its own, no other came
pub record WorkerEnds (system : SystemParts) (limit worker : ℕ) (before : List Entry) (state : Lcg) (after : List Entry) (ended : Ended) : Type 0 where
  pub right : IsEnded system limit after ended
  pub drawn : IsOwn worker after → IsDrawnEnd system limit worker before state after ended

-- one turn of a worker that had seen `before`, and has then seen `after`
abbrev pub HasTurned : SystemParts → ℕ → ℕ → List Entry → Lcg → List Entry → Lcg → Option Ended → Type 0
HasTurned system limit worker before state after later None = GoesOn system limit worker before state after later
HasTurned system limit worker before state after later (Some ended) = WorkerEnds system limit worker before state after ended

-- what is drawn from the host after these entries, behind them, is drawn from the beginning
pub record IsDrawnSoFar (system : SystemParts) (limit worker : ℕ) (seed : Lcg) (seen : List Entry) (state : Lcg) : Type 0 where
  pub continues : (host : HostState) (rest : List Entry) (end : End) (after : HostState) → IsRun system.rules system.init seen host
      → Draws system.rules worker (limit - length seen) host state rest end after → Draws system.rules worker limit system.init seed (seen ++ rest) end after
