use Rattle.std.proofs.Common.{◌≡◌, take, map}
use Rattle.bg_base.specs.Composition as composition
use Rattle.bg_link.proofs.through.inner_through.Given as goal

abbrev pub invariant-loop-row : goal.invariant-loop-row
invariant-loop-row l = l.made.items ≡ map (composition.inner_through l.g) (take l.row-index l.inner)
