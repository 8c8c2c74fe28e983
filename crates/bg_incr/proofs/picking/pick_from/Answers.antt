use Rattle.std.proofs.Common.{refl, rules}
use Rattle.bg_cond.proofs.DrawnRuns.{quiet_none}
use Rattle.bg_cond.specs.Steps.{NoneEnabled}
use Rattle.bg_incr.proofs.PickLaws.{are_settled}
use Rattle.bg_incr.proofs.picking.pick_from.Goals as goal

pub first_class-requires-clause-settled : goal.first_class-requires-clause-settled
first_class-requires-clause-settled c = are_settled c.args.host.now c.args.system.now.rules c.args.lists.now c.requires.kept

pub returns-in-None-clause-picked : goal.returns-in-None-clause-picked
returns-in-None-clause-picked c =
    let quiet : NoneEnabled c.args.host.now c.args.system.now.rules = search rules in
    (quiet_none c.args.host.now c.args.system.now.rules quiet, refl)
