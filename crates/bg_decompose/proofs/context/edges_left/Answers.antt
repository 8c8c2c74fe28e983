use Rattle.std.proofs.Common.{ap, ◌∙◌}
use Rattle.bg_decompose.specs.Parts.{edges_left}
use Rattle.bg_decompose.proofs.Covered.{edges_same}
use Rattle.bg_decompose.proofs.context.edges_left.Goals as goal

pub returns : goal.returns
returns c =
    c.in_ok-made.ensures ∙ ap (edges_left c.args.edges.now) c.as_slice.ensures.value
    ∙ edges_same c.args.images.now c.in_ok-sorted.sorted.items c.in_ok-sorted.ensures c.args.edges.now
