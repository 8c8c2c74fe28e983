use Rattle.std.proofs.Common.{◌∙◌, refl}
use Rattle.bg_workers.proofs.FollowLaws.{longer_same, longer_still}
use Rattle.bg_workers.proofs.TurnLaws.{so_far_start, so_far_more}
use Rattle.bg_workers.proofs.Turning.{later_still}
use Rattle.bg_workers.proofs.working.work_on.Goals as goal

pub loop-ended-init : goal.loop-ended-init
loop-ended-init g c =
    (c.requires.of, refl, λ none own. so_far_start c.args.system.now c.requires.system c.args.limit c.args.worker c.args.picker.now (g.B.Board.seen c.args.pass.now) none, (0, refl), longer_same refl)

pub loop-ended-preserved : goal.loop-ended-preserved
loop-ended-preserved g c =
    let goes = rw c.in_default.is at c.in_ok-ended.ensures.turned in
    let invariant = c.loop-ended.invariant in
    let of = c.turn.ensures.of in (
      of.0,
      of.1 ∙ invariant.1,
      λ none own. so_far_more c.args.system.now c.requires.system c.args.limit c.args.worker c.args.picker.now (g.B.Board.seen c.loop-ended.pass) c.loop-ended.picker
          (g.B.Board.seen c.turn.new.pass) (invariant.2 none) c.turn.new.picker goes own,
      later_still invariant.3 c.turn.ensures.later,
      longer_still (g.B.Board.seen c.args.pass.now) invariant.4 c.turn.ensures.longer,
    )

pub returns-in_err-ended-clause-later : goal.returns-in_err-ended-clause-later
returns-in_err-ended-clause-later g c = let invariant = c.loop-ended.invariant in later_still invariant.3 c.turn.ensures.later

pub returns-in-Some-clause-later : goal.returns-in-Some-clause-later
returns-in-Some-clause-later g c = let invariant = c.loop-ended.invariant in later_still invariant.3 c.turn.ensures.later

pub returns-in_err-ended-clause-longer : goal.returns-in_err-ended-clause-longer
returns-in_err-ended-clause-longer g c = let invariant = c.loop-ended.invariant in longer_still (g.B.Board.seen c.args.pass.now) invariant.4 c.turn.ensures.longer

pub returns-in-Some-clause-longer : goal.returns-in-Some-clause-longer
returns-in-Some-clause-longer g c = let invariant = c.loop-ended.invariant in longer_still (g.B.Board.seen c.args.pass.now) invariant.4 c.turn.ensures.longer
