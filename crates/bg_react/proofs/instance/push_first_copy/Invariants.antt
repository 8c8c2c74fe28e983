use Rattle.std.proofs.Common.{◌≡◌, ◌++◌, take, map}
use Rattle.bg_react.specs.Copying.{first_copy}
use Rattle.bg_react.proofs.instance.push_first_copy.Given as goal

abbrev pub invariant-loop-row : goal.invariant-loop-row
invariant-loop-row l = l.rows.items ≡ l.initial.rows.items ++ map (first_copy l.region) (take l.row-index l.part)
