use Rattle.std.proofs.Common.{◌≡◌, ◌++◌, take, map}
use Rattle.bg_link.specs.Links.{ports_in}
use Rattle.bg_link.specs.Rows.{ranked}
use Rattle.bg_link.proofs.points.push_ports.Given as goal

abbrev pub invariant-loop-row : goal.invariant-loop-row
invariant-loop-row l = l.rows.items ≡ l.initial.rows.items ++ map (ranked l.edges l.outer) (ports_in (take l.row-index l.ports))
