-- What running does to the members of a team.
use Rattle.std.specs.Prelude.{◌≡◌, ℕ, List, [], length, Some, IfOk, slice_get}
use Rattle.std.specs.declared.result.Result.{Result}
use Rattle.bg_base.specs.declared.history.Entry.{Entry}
use Rattle.bg_lists.specs.declared.memory.OutOfMemory.{OutOfMemory}
use Rattle.bg_rules.specs.Systems.{SystemParts}
use Rattle.bg_workers.specs.Turns.{IsLater}
use Rattle.bg_workers.specs.Working.{IsEnded, IsLonger, IsOwn, IsDrawn}
use Rattle.bg_workers.specs.declared.ends.Ended.{Ended}
use Rattle.bg_workers.specs.declared.ends.Member.{Member}

-- the member may run: its pass is one of the board, and its number is that of the pass
abbrev pub IsReady : {P F : Type 0} → (P → Type 0) → (P → ℕ) → Member P F → Type 0
IsReady is_of number member = is_of member.pass × (member.worker ≡ number member.pass)

-- the member has run: it holds how it ended, or that there was no memory
pub record HasRun {P F : Type 0} (is_of : P → Type 0) (number : P → ℕ) (seen : P → List Entry) (system : SystemParts) (limit : ℕ) (before after : Member P F) : Type 0 where
  pub of : is_of after.pass
  pub number_is : number after.pass ≡ number before.pass
  pub worker_is : after.worker ≡ before.worker
  pub answer : Result Ended OutOfMemory
  pub ended : after.ended ≡ Some answer
  pub right : IfOk answer (λ ended. IsEnded system limit (seen after.pass) ended)
  pub longer : IsLonger (seen before.pass) (seen after.pass)
  pub later : IsLater before.picker after.picker
  pub drawn : seen before.pass ≡ [] → IsOwn before.worker (seen after.pass)
      → IfOk answer (λ ended. IsDrawn system limit before.worker before.picker (seen after.pass) ended)

-- each member has run
pub record AllRun {P F : Type 0} (is_of : P → Type 0) (number : P → ℕ) (seen : P → List Entry) (system : SystemParts) (limit : ℕ) (before after : List (Member P F)) : Type 0 where
  pub count : length after ≡ length before
  pub each : (place : ℕ) (one other : Member P F) → slice_get before place ≡ Some one → slice_get after place ≡ Some other
      → HasRun is_of number seen system limit one other
