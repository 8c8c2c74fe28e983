use Rattle.std.proofs.Common.{◌≤◌, arith}
use Rattle.bg_lists.proofs.Places.{At-below}
use Rattle.bg_cond.proofs.Judged.{other_there, judged_higher, judged_highest}
use Rattle.bg_cond.proofs.judging.judge_beside_step.Goals as goal

pub class_of-requires : goal.class_of-requires
class_of-requires g c =
    record { there = other_there (g.H.NumberedHost.state c.args._host.now) c.args.rules.now c.args.step.now c.requires.enabled c.args.other c.requires.first }

pub class_of-requires-2 : goal.class_of-requires-2
class_of-requires-2 g c = record { there = At-below c.requires.enabled.1.there }

pub returns-then-class_of : goal.returns-then-class_of
returns-then-class_of g c =
    judged_higher (g.H.NumberedHost.state c.args._host.now) c.args.rules.now c.args.step.now c.requires.enabled c.args.other c.requires.first
    c.class_of-2.result c.class_of.result c.class_of-2.ensures c.class_of.ensures c.if-class_of.true

pub returns : goal.returns
returns g c =
    let not_less = c.if-class_of.false in
    let more : c.class_of-2.result ≤ c.class_of.result = omega (arith, not_less) in
    judged_highest (g.H.NumberedHost.state c.args._host.now) c.args.rules.now c.args.step.now c.requires.enabled c.args.other c.requires.first
    c.class_of-2.result c.class_of.result c.class_of-2.ensures c.class_of.ensures more
