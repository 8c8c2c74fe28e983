use Rattle.std.proofs.Common.{◌≡◌, take}
use Rattle.bg_decompose.specs.Parts.{edges_left}
use Rattle.bg_decompose.proofs.context.edges_without.Given as goal

abbrev pub invariant-loop-edge : goal.invariant-loop-edge
invariant-loop-edge l = l.made.items ≡ edges_left (take l.edge-index l.edges) l.images
