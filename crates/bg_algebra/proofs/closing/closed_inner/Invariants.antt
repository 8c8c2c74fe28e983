use Rattle.std.proofs.Common.{◌≡◌, take, map}
use Rattle.bg_base.specs.Products.{inner_closed}
use Rattle.bg_algebra.proofs.closing.closed_inner.Given as goal

abbrev pub invariant-loop-row : goal.invariant-loop-row
invariant-loop-row l = l.made.items ≡ map (inner_closed l.name l.edge) (take l.row-index l.rows)
