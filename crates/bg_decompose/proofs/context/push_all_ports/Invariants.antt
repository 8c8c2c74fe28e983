use Rattle.std.proofs.Common.{◌≡◌, ◌++◌, drop}
use Rattle.bg_decompose.specs.Parts.{all_port_rows}
use Rattle.bg_decompose.proofs.context.push_all_ports.Given as goal

abbrev pub invariant-loop-node : goal.invariant-loop-node
invariant-loop-node l = l.rows.items ++ all_port_rows (drop l.node-index l.nodes) ≡ l.initial.rows.items ++ all_port_rows l.nodes
