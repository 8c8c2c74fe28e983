use Rattle.std.proofs.Common.{refl}
use Rattle.bg_cond.proofs.Picking.{picks}
use Rattle.bg_workers.proofs.working.find.Goals as goal

pub returns-in-None-clause-found : goal.returns-in-None-clause-found
returns-in-None-clause-found g c =
    rw c.in-None.is at (picks c.in_ok-candidates.ensures c.args.picker.now c.choose.new.self c.choose.result c.choose.ensures)

pub returns-in-Some-clause-found : goal.returns-in-Some-clause-found
returns-in-Some-clause-found g c =
    let chosen = rw c.in-Some.is at (picks c.in_ok-candidates.ensures c.args.picker.now c.choose.new.self c.choose.result c.choose.ensures) in
    (refl, chosen.0, chosen.1)
