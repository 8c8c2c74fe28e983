-- Histories, and what contracts see of passes and of the turn.
use Rattle.std.specs.Prelude.{◌≡◌, ℕ, zero, suc, ◌<◌, ◌==◌, List, [], ◌∷◌, ◌++◌, filter}
use Rattle.std.specs.List.{AllByRecursion}
use Rattle.atomic_table.specs.Seated.{TableId}
use Rattle.bg_base.specs.declared.history.Entry.{Entry}

-- the entries of a worker, in their order
abbrev pub entries_of : ℕ → List Entry → List Entry
entries_of worker history = filter (λ (entry : Entry). entry.worker == worker) history

-- each entry is of a worker below the number
abbrev pub WorkersBelow : ℕ → List Entry → Type 0
WorkersBelow number history = AllByRecursion (λ (entry : Entry). entry.worker < number) history

-- `after` begins with `before`, and nothing behind that is of the worker
pub record GrowsByOthers (worker : ℕ) (before after : List Entry) : Type 0 where
  pub rest : List Entry
  pub all : after ≡ before ++ rest
  pub none : entries_of worker rest ≡ []

-- a pass: its table, its worker number, and the entries that it has seen
pub record PassView : Type 0 where
  pub table : TableId
  pub worker : ℕ
  pub seen : List Entry

-- the turn: its table, how many passes were given, and the list of all entries
pub record TurnView : Type 0 where
  pub table : TableId
  pub passes : ℕ
  pub list : List Entry

-- a pass that has seen nothing
abbrev pub new_pass : TableId → ℕ → PassView
new_pass table worker = record { table = table; worker = worker; seen = [] }

-- the passes of the workers below the number, which have seen nothing
abbrev pub new_passes : TableId → ℕ → List PassView
new_passes table zero = []
new_passes table (suc number) = new_passes table number ++ new_pass table number ∷ []
