use Rattle.std.proofs.Common.{◌≡◌, ◌++◌, drop}
use Rattle.bg_index.specs.Tied.{edges_named}
use Rattle.bg_index.proofs.idle.push_named.Given as goal

abbrev pub invariant-loop-port : goal.invariant-loop-port
invariant-loop-port l = l.edges.items ++ edges_named l.outer l.links (drop l.port-index l.ports) ≡ l.initial.edges.items ++ edges_named l.outer l.links l.ports
