use Rattle.std.proofs.Common.{◌≡◌, ◌++◌, take, map}
use Rattle.bg_place.specs.Places.{parent_row}
use Rattle.bg_index.proofs.arrivals.push_rows.Given as goal

abbrev pub invariant-loop-row : goal.invariant-loop-row
invariant-loop-row l = l.made.items ≡ l.initial.made.items ++ map parent_row (take l.row-index l.new)
