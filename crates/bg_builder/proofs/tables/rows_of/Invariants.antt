use Rattle.std.proofs.Common.{◌≡◌}
use Rattle.bg_builder.specs.Frames.{inner_rows}
use Rattle.bg_builder.proofs.tables.rows_of.Given as goal

abbrev pub invariant-loop-name : goal.invariant-loop-name
invariant-loop-name l = l.rows.items ≡ inner_rows l.yielded
