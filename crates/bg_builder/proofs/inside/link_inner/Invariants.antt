use Rattle.std.proofs.Common.{◌≡◌, ◌++◌, take, drop, map}
use Rattle.bg_builder.specs.Inside.{inner_by}
use Rattle.bg_builder.proofs.inside.link_inner.Given as goal

abbrev pub invariant-loop-row : goal.invariant-loop-row
invariant-loop-row l = l.rows ≡ map (inner_by l.inner) (take l.row-index l.initial.rows) ++ drop l.row-index l.initial.rows
