use Rattle.bg_cond.proofs.Picking.{picks}
use Rattle.bg_cond.proofs.follower.Follower.pick.Goals as goal

pub returns-clause-picked : goal.returns-clause-picked
returns-clause-picked g c = picks c.in_ok-candidates.ensures.steps c.args.picker.now c.choose-chosen.new.self c.choose-chosen.result c.choose-chosen.ensures
