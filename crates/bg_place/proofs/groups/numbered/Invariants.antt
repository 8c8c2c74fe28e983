use Rattle.std.proofs.Common.{◌≡◌, ◌++◌, drop}
use Rattle.bg_place.specs.Places as defined
use Rattle.bg_place.proofs.groups.numbered.Given as goal

abbrev pub invariant-loop-at : goal.invariant-loop-at
invariant-loop-at l = l.rows.items ++ defined.numbered l.at (drop l.at l.places) ≡ defined.numbered 0 l.places
