-- Hosts that workers share: what the lock keeps, and what is said of histories when it is closed.
use Rattle.std.specs.Prelude.{◌≡◌, ℕ, ◌≤◌, List, [], length}
use Rattle.std.specs.List.{AllByRecursion}
use Rattle.atomic_table.specs.Seated.{TableId}
use Rattle.bg_base.specs.Limits.{most_steps}
use Rattle.bg_base.specs.declared.history.Entry.{Entry}
use Rattle.bg_cond.specs.Steps.{IsRun}
use Rattle.bg_cond.specs.declared.commits.Commit.{Commit}
use Rattle.bg_cond.specs.declared.commits.Commit.TheVariants.{Done, Again, Spent, Full}
use Rattle.bg_rules.specs.Reaction.{HostState}
use Rattle.bg_rules.specs.Systems.{SystemParts, IsSystem}
use Rattle.bg_seats.specs.Histories.{PassView, TurnView, GrowsByOthers, WorkersBelow, new_passes}

-- ---- what contracts see

-- the value behind the lock: its journal and its host
pub record CoreView : Type 0 where
  pub journal : List Entry
  pub host : HostState

-- journal and host stay where the step was not done
abbrev pub StaysUnlessDone : Commit → CoreView → CoreView → Type 0
StaysUnlessDone (Done version) before after = Unit {0}
StaysUnlessDone (Again version) before after = after ≡ before
StaysUnlessDone (Spent told) before after = after ≡ before
StaysUnlessDone Full before after = after ≡ before

-- the parts of a shared host: its table and its system, how many entries there may be, how many passes there are
pub record PartsView : Type 0 where
  pub table : TableId
  pub system : SystemParts
  pub limit : ℕ
  pub passes : ℕ

-- ---- what is kept

-- the parts belong together, and nothing has happened yet
pub record AreHostParts (table : TableId) (members : List PassView) (turn : TurnView) (system : SystemParts) (host : HostState) (journal : List Entry) (limit passes : ℕ) : Type 0 where
  pub members_are : members ≡ new_passes table passes
  pub turn_is : turn ≡ record { table = table; passes = passes; list = [] }
  pub is_system : IsSystem system
  pub host_is : host ≡ system.init
  pub none_yet : journal ≡ []
  pub room : limit ≤ most_steps

-- what the lock keeps, whatever the threads do: the turn is the table's and its list is the journal; the journal is a run from
-- the system's first host to this one; it has at most so many entries, each of a worker that has a pass
pub record IsLocked (table : TableId) (system : SystemParts) (limit passes : ℕ) (turn : TurnView) (host : HostState) (journal : List Entry) (bound : ℕ) : Type 0 where
  pub turn_is : turn ≡ record { table = table; passes = passes; list = journal }
  pub is_system : IsSystem system
  pub run : IsRun system.rules system.init journal host
  pub within : length journal ≤ limit
  pub below : WorkersBelow passes journal
  pub bound_is : bound ≡ limit
  pub room : limit ≤ most_steps

-- the entries are a run of the system to some host, at most so many, each of a worker that has a pass
pub record IsHistory (system : SystemParts) (limit passes : ℕ) (entries : List Entry) : Type 0 where
  pub host : HostState
  pub run : IsRun system.rules system.init entries host
  pub within : length entries ≤ limit
  pub below : WorkersBelow passes entries

-- ---- passes that are handed in

-- each pass is of the table
abbrev pub OfTable : TableId → List PassView → Type 0
OfTable table passes = AllByRecursion (λ (pass : PassView). pass.table ≡ table) passes

-- the journal begins with all that the pass had seen, and nothing behind that is of its worker
abbrev pub BeginsWith : List Entry → PassView → Type 0
BeginsWith journal pass = GrowsByOthers pass.worker pass.seen journal

-- and so for each pass
abbrev pub BeginsWithEach : List Entry → List PassView → Type 0
BeginsWithEach journal passes = AllByRecursion (BeginsWith journal) passes
