-- The rule of the history word, and what its steps tell.
-- What the owner of a seat knows of the history is the seat's view. It is plain data and stands in proofs alone.
use Rattle.std.specs.Prelude.{◌≡◌, ℕ, ◌+◌, ◌<◌, ◌≤◌, option_map, unwrap_or, List, [], ◌∷◌, ◌++◌, length, MatchOption, None, Some}
use mathlib.Core.Option.{some}
use lib.ListN.{get_elem?}
use Rattle.atomic_table.specs.Table.{State, Me, Step}
use Rattle.bg_base.specs.Limits.{most_steps}
use Rattle.bg_base.specs.declared.history.Entry.{Entry}
use Rattle.bg_seats.specs.declared.knowledge.Knowledge.{Knowledge}
use Rattle.bg_seats.specs.Histories.{entries_of, WorkersBelow, GrowsByOthers}

-- ---- the rule

-- what is true of the view of each seat, where so many passes were given, one seat has the turn, and each worker number has its seat
pub record Agrees (history : List Entry) (passes turn : ℕ) (seat_of : ℕ → ℕ) (seat : ℕ) (view : Knowledge) : Type 0 where
  -- a view with the turn is that of the one seat, and its list is the history
  pub one_turn : (given : ℕ) → view.turn ≡ Some given → (given ≡ passes) × (seat ≡ turn) × (view.history ≡ history)
  -- what it has seen is a beginning of the history
  pub rest : List Entry
  pub begins : history ≡ view.seen ++ rest
  -- its worker number was given and is that of this seat alone, and no entry past what it has seen has the number
  pub own : (worker : ℕ) → view.worker ≡ Some worker → (worker < passes) × (seat ≡ seat_of worker) × (entries_of worker rest ≡ [])

-- the word counts the entries of the history, some seat has the turn, and the view of each seat agrees
pub record IsHistoryWord (words : List ℕ) (views : List Knowledge) : Type 0 where
  pub history : List Entry
  pub passes : ℕ
  pub turn : ℕ
  pub seat_of : ℕ → ℕ
  pub word : words ≡ length history ∷ []
  pub short : length history ≤ most_steps
  pub numbered : WorkersBelow passes history
  pub turn_there : (view : Knowledge) × (get_elem? views turn ≡ some view) × (view.turn ≡ Some passes)
  pub each : (seat : ℕ) (view : Knowledge) → get_elem? views seat ≡ some view → Agrees history passes turn seat_of seat view

-- the rule, of a table
abbrev pub holds : {S : Type 0} → State S Knowledge → Type 0
holds state = IsHistoryWord state.words state.views

-- ---- views

-- the view of the turn, after so many passes were given
abbrev pub turn_of : ℕ → List Entry → Knowledge
turn_of passes history = record { turn = Some passes; worker = None; seen = []; history = history }

-- the view of a pass
abbrev pub pass_of : ℕ → List Entry → Knowledge
pass_of worker seen = record { turn = None; worker = Some worker; seen = seen; history = [] }

-- the view of a pass that has the turn
abbrev pub both_of : ℕ → List Entry → ℕ → List Entry → Knowledge
both_of worker seen passes history = record { turn = Some passes; worker = Some worker; seen = seen; history = history }

-- the view of a seat that was joined to another
abbrev pub spent : Knowledge
spent = record { turn = None; worker = None; seen = []; history = [] }

-- the history of the first of these views
abbrev pub list_of : List Knowledge → List Entry
list_of [] = []
list_of (view ∷ views) = view.history

-- ---- how views change

-- the turn after one pass more was given
abbrev pub with_pass_given : Knowledge → Knowledge
with_pass_given view = record view { turn = option_map (λ passes. passes + 1) view.turn }

-- that pass
abbrev pub given_pass : Knowledge → Knowledge
given_pass view = pass_of (unwrap_or view.turn 0) view.history

-- a pass that takes the turn
abbrev pub with_turn : Knowledge → Knowledge → Knowledge
with_turn pass turn = record { turn = turn.turn; worker = pass.worker; seen = pass.seen; history = turn.history }

-- the turn that takes in an ended pass
abbrev pub taken_in : Knowledge → Knowledge → Knowledge
taken_in turn pass = with_turn pass turn

-- a pass that has left the turn
abbrev pub pass_alone : Knowledge → Knowledge
pass_alone view = record { turn = None; worker = view.worker; seen = view.seen; history = [] }

-- the turn that it has left
abbrev pub turn_alone : Knowledge → Knowledge
turn_alone view = record { turn = view.turn; worker = None; seen = []; history = view.history }

-- a pass with the turn, when it has seen the history
abbrev pub caught_up : Knowledge → Knowledge
caught_up view = record view { seen = view.history }

-- the same with one entry more
abbrev pub extended : Entry → Knowledge → Knowledge
extended entry view = record view { seen = view.seen ++ entry ∷ []; history = view.history ++ entry ∷ [] }

-- ---- what steps tell

-- what a load tells a pass that has the turn
abbrev pub Told : Knowledge → ℕ → Type 0
Told view count =
    (count ≡ length view.history) × (count ≤ most_steps)
    × MatchOption view.worker (Unit {0}) (λ worker. GrowsByOthers worker view.seen view.history × MatchOption view.turn (Unit {0}) (λ passes. worker < passes))
    × MatchOption view.turn (Unit {0}) (λ passes. WorkersBelow passes view.history)

-- a load after which the pass has seen the history
abbrev pub CaughtUp : {S : Type 0} → Step S → Me S Knowledge → ℕ → Me S Knowledge → Type 0
CaughtUp step before count after = (after ≡ (caught_up before.0, before.1)) × Told before.0 count

-- a load that changes no view
abbrev pub Compared : {S : Type 0} → Step S → Me S Knowledge → ℕ → Me S Knowledge → Type 0
Compared step before count after = (after ≡ before) × Told before.0 count

-- a load after which the pass is no more
abbrev pub PassEnded : {S : Type 0} → Step S → Me S Knowledge → ℕ → Me S Knowledge → Type 0
PassEnded step before count after = (after ≡ (turn_alone before.0, before.1)) × Told before.0 count

-- a load by a pass that has not the turn
abbrev pub Loaded : {S : Type 0} → Step S → Me S Knowledge → ℕ → Me S Knowledge → Type 0
Loaded step before count after = (after ≡ before) × (length before.0.seen ≤ count) × (count ≤ most_steps)

-- the step that records an entry
abbrev pub Recorded : {S : Type 0} → Entry → Step S → Me S Knowledge → ℕ → Me S Knowledge → Type 0
Recorded entry step before count after =
    (after ≡ (extended entry before.0, before.1)) × (count ≡ length before.0.history)
    × MatchOption before.0.turn (Unit {0}) (λ passes. WorkersBelow passes (before.0.history ++ entry ∷ []))
