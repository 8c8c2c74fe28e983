use Rattle.std.proofs.Common.{◌≡◌, ◌++◌, drop}
use Rattle.bg_index.specs.Tied.{edges_named_by}
use Rattle.bg_index.proofs.idle.edges_named_by.Given as goal

abbrev pub invariant-loop-row : goal.invariant-loop-row
invariant-loop-row l = l.edges.items ++ edges_named_by l.outer l.links (drop l.row-index l.rows) ≡ edges_named_by l.outer l.links l.rows
