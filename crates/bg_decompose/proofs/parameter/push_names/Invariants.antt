use Rattle.std.proofs.Common.{◌≡◌, ◌++◌}
use Rattle.bg_rules.specs.Decomposition.{port_names}
use Rattle.bg_decompose.proofs.parameter.push_names.Given as goal

abbrev pub invariant-loop-port : goal.invariant-loop-port
invariant-loop-port l = l.names.items ≡ l.initial.names.items ++ port_names l.node l.port
