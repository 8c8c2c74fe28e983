use Rattle.bg_index.proofs.PlanningLaws.{listed_dropped}
use Rattle.bg_index.proofs.planning.dropped.Goals as goal

pub returns-clause-dropped : goal.returns-clause-dropped
returns-clause-dropped c =
    listed_dropped c.args.host.now c.args.rule.now c.args.map.now c.args.reading.now c.requires.read c.in_ok-gone.gone.items c.in_ok-gone.ensures.listed
