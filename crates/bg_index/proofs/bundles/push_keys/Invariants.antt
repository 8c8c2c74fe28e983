use Rattle.std.proofs.Common.{◌≡◌, ◌++◌, drop, map}
use Rattle.bg_index.specs.Arrivals.{key_of}
use Rattle.bg_index.proofs.bundles.push_keys.Given as goal

abbrev pub invariant-loop-link : goal.invariant-loop-link
invariant-loop-link l = l.keys.items ++ map (key_of l.host.big.outer) (drop l.link-index l.links) ≡ l.initial.keys.items ++ map (key_of l.host.big.outer) l.links
