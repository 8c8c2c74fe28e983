use Rattle.std.proofs.Common.{◌≡◌, take, map}
use Rattle.bg_algebra.specs.Halves.{parent_in_one}
use Rattle.bg_algebra.proofs.regions.parents_in_one.Given as goal

abbrev pub invariant-loop-row : goal.invariant-loop-row
invariant-loop-row l = l.made.items ≡ map parent_in_one (take l.row-index l.rows)
