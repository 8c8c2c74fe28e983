use Rattle.bg_index.proofs.PlanningLaws.{read_numbers_pass}
use Rattle.bg_index.proofs.planning.room_for_nodes.Goals as goal

pub returns-in-None-clause-full : goal.returns-in-None-clause-full
returns-in-None-clause-full c =
    let none = c.counters_after.ensures in
    let fails = rw c.in-None.is at none in
    λ _. read_numbers_pass c.args.host.now c.args.rule.now c.args.map.now c.args.reading.now c.requires.read c.args.gone.now c.requires.gone_ascends c.requires.gone_are fails
