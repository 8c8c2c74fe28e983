use Rattle.std.proofs.Common.{◌≡◌, ◌++◌, drop}
use Rattle.bg_index.specs.Tied.{edges_on}
use Rattle.bg_index.proofs.idle.edges_on.Given as goal

abbrev pub invariant-loop-node : goal.invariant-loop-node
invariant-loop-node l = l.edges.items ++ edges_on l.host.big.nodes (drop l.node-index l.nodes) ≡ edges_on l.host.big.nodes l.nodes
