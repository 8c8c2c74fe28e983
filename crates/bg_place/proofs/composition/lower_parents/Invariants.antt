use Rattle.std.proofs.Common.{◌≡◌, take, map}
use Rattle.bg_base.specs.Composition.{place_through}
use Rattle.bg_place.specs.Places.{moved_row}
use Rattle.bg_place.proofs.composition.lower_parents.Given as goal

abbrev pub invariant-loop-row : goal.invariant-loop-row
invariant-loop-row l = l.rows.items ≡ map (moved_row (place_through l.g)) (take l.row-index l.lower)
