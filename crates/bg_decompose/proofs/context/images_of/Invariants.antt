use Rattle.std.proofs.Common.{◌≡◌, take, map}
use Rattle.bg_decompose.specs.Parts.{image_edge}
use Rattle.bg_decompose.proofs.context.images_of.Given as goal

abbrev pub invariant-loop-edge : goal.invariant-loop-edge
invariant-loop-edge l = l.made.items ≡ map (image_edge l.host l.pattern l.map) (take l.edge-index l.edges)
