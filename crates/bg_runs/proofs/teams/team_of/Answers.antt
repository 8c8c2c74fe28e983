use Rattle.bg_shared.proofs.Committing.{all_snoc}
use Rattle.bg_runs.proofs.TeamLaws.{team_snoc}
use Rattle.bg_runs.specs.Teams.{StandsFirst}
use Rattle.bg_runs.proofs.teams.team_of.Goals as goal

pub loop-pass-preserved : goal.loop-pass-preserved
loop-pass-preserved c =
    rw c.in_ok-push.ensures.items (
      team_snoc c.args.seed c.loop-pass.yielded c.loop-pass.members.items c.in-Some.pass c.in_ok-member_of.field-0 c.loop-pass.invariant.0
          c.in_ok-member_of.ensures.member,
      all_snoc (StandsFirst c.args.system.now) c.loop-pass.members.items c.in_ok-member_of.field-0 c.loop-pass.invariant.1 c.in_ok-member_of.ensures.standing,
    )
