use Rattle.std.proofs.Common.{◌≡◌, ◌++◌, drop}
use Rattle.bg_index.specs.Arrivals.{keys_lost}
use Rattle.bg_index.proofs.bundles.keys_on.Given as goal

abbrev pub invariant-loop-node : goal.invariant-loop-node
invariant-loop-node l = l.keys.items ++ keys_lost l.host.big (drop l.node-index l.nodes) ≡ keys_lost l.host.big l.nodes
