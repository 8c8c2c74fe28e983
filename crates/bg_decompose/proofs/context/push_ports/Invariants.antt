use Rattle.std.proofs.Common.{◌≡◌, ◌++◌, drop}
use Rattle.bg_decompose.specs.Parts.{port_rows}
use Rattle.bg_decompose.proofs.context.push_ports.Given as goal

abbrev pub invariant-loop-port : goal.invariant-loop-port
invariant-loop-port l = l.rows.items ++ port_rows l.node l.port (drop l.port l.links) ≡ l.initial.rows.items ++ port_rows l.node 0 l.links
