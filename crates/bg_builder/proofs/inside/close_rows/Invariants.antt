use Rattle.std.proofs.Common.{◌≡◌, ◌++◌, take, drop, map}
use Rattle.bg_base.specs.Products.{row_closed}
use Rattle.bg_builder.proofs.inside.close_rows.Given as goal

abbrev pub invariant-loop-row : goal.invariant-loop-row
invariant-loop-row l = l.rows ≡ map (row_closed l.name l.edge) (take l.row-index l.initial.rows) ++ drop l.row-index l.initial.rows
