use Rattle.std.proofs.Common.{◌≡◌, take, filter, not, ◌==◌, ℕ}
use Rattle.bg_base.specs.declared.names.Link.TheVariants.{Edge}
use Rattle.bg_link.specs.Links.{degree_of}
use Rattle.bg_algebra.proofs.idle_edges.used_edges.Given as goal

abbrev pub invariant-loop-edge : goal.invariant-loop-edge
invariant-loop-edge l = l.made.items ≡ filter (λ (edge : ℕ). not (degree_of l.wiring (Edge edge) == 0)) (take l.edge-index l.edges)
