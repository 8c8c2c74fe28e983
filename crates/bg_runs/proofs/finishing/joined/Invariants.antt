use Rattle.std.proofs.Common.{◌≡◌, ◌++◌}
use Rattle.bg_runs.proofs.finishing.joined.Given as goal

-- those so far stand behind the first ones
abbrev pub invariant-loop-entry : goal.invariant-loop-entry
invariant-loop-entry l = l.entries.items ≡ l.fn.journal ++ l.yielded
