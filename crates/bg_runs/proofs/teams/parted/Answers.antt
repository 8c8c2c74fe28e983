use Rattle.bg_runs.proofs.TeamLaws.{parted_members}
use Rattle.bg_runs.proofs.teams.parted.Goals as goal

pub returns : goal.returns
returns c =
    parted_members c.args.members.items c.remove-pass.new.self.items c.remove-pass.result c.in_ok-passes.passes.items _ c.in_ok-ended.ended c.requires
    c.remove-pass.ensures.value c.remove-pass.ensures.items c.in_ok-ended.ensures c.in_ok-passes.ensures.passes c.in_ok-push.ensures.items c.in_ok-passes.ensures.ended
