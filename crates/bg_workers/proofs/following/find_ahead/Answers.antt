use Rattle.std.proofs.Common.{◌∙◌}
use Rattle.bg_workers.proofs.following.find_ahead.Goals as goal

pub returns-in-None-clause-found : goal.returns-in-None-clause-found
returns-in-None-clause-found g c = rw c.in-None.is at c.in_ok-step.ensures.picked

pub returns-in-Some-clause-found : goal.returns-in-Some-clause-found
returns-in-Some-clause-found g c =
    let chosen = rw c.in-Some.is at c.in_ok-step.ensures.picked in
    (c.version.ensures ∙ c.pick.ensures.version, chosen.0, chosen.1)
