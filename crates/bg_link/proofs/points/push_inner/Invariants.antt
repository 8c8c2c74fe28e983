use Rattle.std.proofs.Common.{◌≡◌, ◌++◌, take, map}
use Rattle.bg_link.specs.Links.{inner_point}
use Rattle.bg_link.specs.Rows.{ranked}
use Rattle.bg_link.proofs.points.push_inner.Given as goal

abbrev pub invariant-loop-row : goal.invariant-loop-row
invariant-loop-row l = l.rows.items ≡ l.initial.rows.items ++ map (ranked l.edges l.outer) (map inner_point (take l.row-index l.inner))
