use Rattle.std.proofs.Common.{◌≡◌, take, map}
use Rattle.bg_base.specs.Products.{row_closed}
use Rattle.bg_algebra.proofs.closing.closed_nodes.Given as goal

abbrev pub invariant-loop-row : goal.invariant-loop-row
invariant-loop-row l = l.made.items ≡ map (row_closed l.name l.edge) (take l.row-index l.rows)
