use Rattle.std.proofs.Common.{◌∙◌}
use Rattle.bg_base.proofs.SearchLaws.{edge_searched}
use Rattle.bg_base.proofs.check.has_edge.Goals as goal

pub returns : goal.returns
returns c =
    c.is_ok.ensures.value
    ∙ edge_searched c.args.edges.now c.args.sorted.now c.args.edge c.binary_search.result c.requires c.binary_search.ensures.bound
    c.binary_search.ensures.position
