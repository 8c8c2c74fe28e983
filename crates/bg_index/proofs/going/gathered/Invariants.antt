use Rattle.bg_index.specs.Going.{AreGathered}
use Rattle.bg_index.proofs.going.gathered.Given as goal

abbrev pub invariant-loop-site : goal.invariant-loop-site
invariant-loop-site l = AreGathered l.map l.asked l.parts l.site l.gone.items
