use Rattle.std.proofs.Common.{◌≡◌, ◌==◌, length, filter, take}
use Rattle.bg_base.specs.declared.names.Link.TheVariants.{Edge}
use Rattle.bg_link.specs.Links.{points_of}
use Rattle.bg_link.proofs.groups.Groups.idle_edges.Given as goal

abbrev pub invariant-loop-edge : goal.invariant-loop-edge
invariant-loop-edge l = l.idle.items ≡ filter (λ edge. length (points_of l.self (Edge edge)) == 0) (take l.edge-index l.edges)
