-- What workers see of a host that they share, and what becomes of the steps that they find.
use Rattle.std.specs.Prelude.{◌≡◌, ℕ, ◌+◌, ◌<◌, ◌≤◌, List, [], ◌∷◌, ◌++◌, length, take, drop}
use Rattle.bg_base.specs.declared.history.Entry.{Entry}
use Rattle.bg_cond.specs.Drawn.{entry_of}
use Rattle.bg_cond.specs.Steps.{IsLegal, LeadsTo, IsTooLarge, IsRun}
use Rattle.bg_cond.specs.declared.commits.View.{View}
use Rattle.bg_cond.specs.declared.commits.Found.{Found}
use Rattle.bg_cond.specs.declared.commits.Commit.{Commit}
use Rattle.bg_cond.specs.declared.commits.Commit.TheVariants.{Done, Again, Spent, Full}
use Rattle.bg_rules.specs.Reaction.{HostState}
use Rattle.bg_rules.specs.Systems.{SystemParts}
use Rattle.bg_seats.specs.Histories.{GrowsByOthers}

-- the view is of all that was seen, which is a run of at most so many entries
pub record IsViewOf (system : SystemParts) (limit : ℕ) (seen : List Entry) (view : View) : Type 0 where
  pub version : view.version ≡ length seen
  pub run : IsRun system.rules system.init seen view.host
  pub within : length seen ≤ limit

-- the entries are those behind the first so many of all that were seen, which are a run of at most so many entries
pub record IsNews (system : SystemParts) (limit from : ℕ) (seen entries : List Entry) : Type 0 where
  pub rest : entries ≡ drop from seen
  pub host : HostState
  pub run : IsRun system.rules system.init seen host
  pub within : length seen ≤ limit

-- the step was found at a version that was seen, and is legal there
pub record IsFound (system : SystemParts) (seen : List Entry) (found : Found) : Type 0 where
  pub version : found.version ≤ length seen
  pub host : HostState
  pub run : IsRun system.rules system.init (take found.version seen) host
  pub legal : IsLegal host system.rules found.step

-- ---- what became of a step, where a worker had seen `before` and has then seen `after`

-- the step was the next one, and is the last entry now: no other entry had come, there was room, and it leads to a host
pub record IsDone (system : SystemParts) (limit worker : ℕ) (before after : List Entry) (found : Found) (version : ℕ) : Type 0 where
  pub newest : found.version ≡ length before
  pub room : length before < limit
  pub host : HostState
  pub next : HostState
  pub run : IsRun system.rules system.init before host
  pub leads : LeadsTo host system.rules found.step next
  pub appended : after ≡ before ++ entry_of worker found.step ∷ []
  pub number : version ≡ length before + 1

-- more entries are there than those that the step was found after
pub record IsAgain (worker : ℕ) (before after : List Entry) (found : Found) (version : ℕ) : Type 0 where
  pub grows : GrowsByOthers worker before after
  pub newer : found.version < version
  pub number : version ≡ length after

-- no more entries are there, and no more may be
pub record IsSpent (limit worker : ℕ) (before after : List Entry) (found : Found) (told : ℕ) : Type 0 where
  pub grows : GrowsByOthers worker before after
  pub newest : found.version ≡ length after
  pub spent : length after ≡ limit
  pub number : told ≡ limit

-- no more entries are there, there is room, and what the step leads to passes a limit
pub record IsFull (system : SystemParts) (limit worker : ℕ) (before after : List Entry) (found : Found) : Type 0 where
  pub grows : GrowsByOthers worker before after
  pub newest : found.version ≡ length after
  pub room : length after < limit
  pub host : HostState
  pub run : IsRun system.rules system.init after host
  pub full : IsTooLarge host system.rules found.step

-- the answer to a commit is right
abbrev pub IsCommitted : SystemParts → ℕ → ℕ → List Entry → List Entry → Found → Commit → Type 0
IsCommitted system limit worker before after found (Done version) = IsDone system limit worker before after found version
IsCommitted system limit worker before after found (Again version) = IsAgain worker before after found version
IsCommitted system limit worker before after found (Spent told) = IsSpent limit worker before after found told
IsCommitted system limit worker before after found Full = IsFull system limit worker before after found
