use Rattle.bg_incr.proofs.Pushed.{IsPushing}
use Rattle.bg_incr.proofs.listing.push_kept.Given as goal

abbrev pub invariant-loop-map : goal.invariant-loop-map
invariant-loop-map l = IsPushing l.most l.number l.map-index l.maps l.fn.steps.items l.steps.items
