use Rattle.std.proofs.Common.{◌≡◌, take, map}
use Rattle.bg_link.specs.Links.{port_row}
use Rattle.bg_link.proofs.graph.port_rows.Given as goal

abbrev pub invariant-loop-row : goal.invariant-loop-row
invariant-loop-row l = l.rows.items ≡ map port_row (take l.row-index l.nodes)
