use Rattle.std.proofs.Common.{◌≡◌, ◌++◌, take}
use Rattle.bg_index.specs.Telling.{edges_told}
use Rattle.bg_index.proofs.causes.tell_edges.Given as goal

abbrev pub invariant-loop-edge : goal.invariant-loop-edge
invariant-loop-edge l = l.relinked.items ≡ l.initial.relinked.items ++ edges_told l.host.big (take l.edge-index l.edges)
