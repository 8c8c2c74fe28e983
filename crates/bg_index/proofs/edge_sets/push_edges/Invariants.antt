use Rattle.std.proofs.Common.{◌≡◌, ◌++◌, drop}
use Rattle.bg_index.specs.Tied.{edges_in}
use Rattle.bg_index.proofs.edge_sets.push_edges.Given as goal

abbrev pub invariant-loop-link : goal.invariant-loop-link
invariant-loop-link l = l.edges.items ++ edges_in (drop l.link-index l.links) ≡ l.initial.edges.items ++ edges_in l.links
