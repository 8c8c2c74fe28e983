use Rattle.std.proofs.Common.{Ok, Err, sym}
use Rattle.bg_link.proofs.RankLaws.{edge-search}
use Rattle.bg_link.proofs.points.edge_position.Goals as goal

pub returns-in-Ok-clause-position : goal.returns-in-Ok-clause-position
returns-in-Ok-clause-position c =
    sym (edge-search c.args.edges.now c.args.edge c.requires.ascending (Ok c.in-Ok.at) c.in-Ok.ensures.bound c.in-Ok.ensures.position)

pub returns-in-Err-clause-position : goal.returns-in-Err-clause-position
returns-in-Err-clause-position c =
    sym (edge-search c.args.edges.now c.args.edge c.requires.ascending (Err c.in-Err.field-0) c.in-Err.ensures.bound c.in-Err.ensures.position)
