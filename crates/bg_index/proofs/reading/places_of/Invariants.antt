use Rattle.bg_index.specs.Readings.{ArePlaced}
use Rattle.bg_index.proofs.reading.places_of.Given as goal

abbrev pub invariant-loop-at : goal.invariant-loop-at
invariant-loop-at l = ArePlaced l.host.big l.redex l.map l.at l.places.items
