use Rattle.std.proofs.Common.{◌≡◌, ◌++◌, take, drop, map}
use Rattle.bg_base.specs.Products.{row_in_one}
use Rattle.bg_builder.proofs.inside.merge_rows.Given as goal

abbrev pub invariant-loop-row : goal.invariant-loop-row
invariant-loop-row l = l.rows ≡ map row_in_one (take l.row-index l.initial.rows) ++ drop l.row-index l.initial.rows
