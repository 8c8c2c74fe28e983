use Rattle.std.proofs.Common.{◌≡◌, ◌++◌, take, zip}
use Rattle.std.specs.List.{flat_map}
use Rattle.command_run.proofs.Telling.{line_of}
use Rattle.command_run.proofs.text.put_predicates.Given as goal

-- the lines so far are written
abbrev pub invariant-loop-number : goal.invariant-loop-number
invariant-loop-number l = l.out.items ≡ l.fn.out.items ++ flat_map line_of (take l.number (zip l.predicates l.truths))
