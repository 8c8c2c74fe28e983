use Rattle.std.proofs.Common.{◌≡◌, take, map}
use Rattle.bg_index.specs.Arriving.{move_row}
use Rattle.bg_index.proofs.arrivals.move_rows.Given as goal

abbrev pub invariant-loop-step : goal.invariant-loop-step
invariant-loop-step l = l.made.items ≡ map move_row (take l.step-index l.moves)
