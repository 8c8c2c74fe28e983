use Rattle.std.proofs.Common.{◌≡◌}
use Rattle.bg_builder.specs.Frames.{inner_rows}
use Rattle.bg_builder.proofs.tables.inner_pairs.Given as goal

abbrev pub invariant-loop-row : goal.invariant-loop-row
invariant-loop-row l = inner_rows l.pairs.items ≡ l.yielded
