use Rattle.std.proofs.Common.{◌≡◌, ◌++◌, drop, map}
use Rattle.bg_link.specs.Links.{ports_from}
use Rattle.bg_index.specs.Arrivals.{arrived}
use Rattle.bg_index.proofs.point_arrivals.push_ports.Given as goal

abbrev pub invariant-loop-at : goal.invariant-loop-at
invariant-loop-at l =
    l.made.items ++ map (arrived l.host.big.outer) (ports_from l.node l.at (drop l.at l.links))
    ≡ l.initial.made.items ++ map (arrived l.host.big.outer) (ports_from l.node 0 l.links)
