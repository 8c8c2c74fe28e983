use Rattle.bg_cond.proofs.Picking.{picks}
use Rattle.bg_incr.proofs.kept_finder.pick_anew.Goals as goal

pub returns-clause-picked : goal.returns-clause-picked
returns-clause-picked c = picks c.in_ok-candidates.ensures c.args.picker.now c.choose-chosen.new.self c.choose-chosen.result c.choose-chosen.ensures
