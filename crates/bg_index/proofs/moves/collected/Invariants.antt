use Rattle.bg_index.specs.Copying.{AreMoved}
use Rattle.bg_index.specs.Readings.{boundary_of}
use Rattle.bg_index.proofs.moves.collected.Given as goal

abbrev pub invariant-loop-at : goal.invariant-loop-at
invariant-loop-at l = AreMoved l.host l.rule l.map (boundary_of l.reading) l.at l.moves.items
