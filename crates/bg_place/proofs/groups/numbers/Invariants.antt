use Rattle.std.proofs.Common.{◌≡◌, take, map}
use Rattle.bg_place.specs.Places.{node_number}
use Rattle.bg_place.proofs.groups.numbers.Given as goal

abbrev pub invariant-loop-row : goal.invariant-loop-row
invariant-loop-row l = l.made.items ≡ map node_number (take l.row-index l.rows)
