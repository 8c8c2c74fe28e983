use Rattle.std.proofs.Common.{◌≡◌, ◌++◌, drop, map}
use Rattle.bg_link.specs.Links.{ports_from}
use Rattle.bg_link.specs.Rows.{ranked}
use Rattle.bg_link.proofs.points.push_node.Given as goal

abbrev pub invariant-loop-at : goal.invariant-loop-at
invariant-loop-at l =
    l.rows.items ++ map (ranked l.edges l.outer) (ports_from l.node l.at (drop l.at l.links))
    ≡ l.initial.rows.items ++ map (ranked l.edges l.outer) (ports_from l.node 0 l.links)
