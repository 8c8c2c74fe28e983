use Rattle.std.proofs.Common.{◌∙◌}
use Rattle.bg_base.proofs.LookUps.{edge_of-search}
use Rattle.bg_base.proofs.look_up.has_edge.Goals as goal

pub returns : goal.returns
returns c =
    c.is_ok.ensures.value
    ∙ edge_of-search c.args.edges.now c.args.edge c.requires.ascending c.binary_search.result c.binary_search.ensures.bound c.binary_search.ensures.position
