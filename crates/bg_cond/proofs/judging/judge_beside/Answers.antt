use Rattle.std.proofs.Common.{◌≡◌, [], List, rules, subst}
use Rattle.bg_base.specs.declared.history.Step.{Step}
use Rattle.bg_cond.specs.Steps.{AreFirstLegal}
use Rattle.bg_cond.proofs.Judged.{judged_some}
use Rattle.bg_cond.proofs.judging.judge_beside.Goals as goal

pub returns : goal.returns
returns g c =
    let none : c.args.first.items ≡ [] = search rules in
    absurd (judged_some (g.H.NumberedHost.state c.args._host.now) c.args.system.now.rules c.args.step.now c.requires.enabled
    (subst (λ (steps : List Step). AreFirstLegal 1 (g.H.NumberedHost.state c.args._host.now) c.args.system.now.rules steps) none c.requires.first))
