use Rattle.std.proofs.Common.{◌≡◌, ℕ, ◌<◌, Some, slice_get}
use Rattle.command_run.proofs.counting.is_in_order.Given as goal

-- the numbers so far are in order
abbrev pub invariant-loop-at : goal.invariant-loop-at
invariant-loop-at l = (place number : ℕ) → place < l.at → slice_get l.numbers place ≡ Some number → number ≡ place
