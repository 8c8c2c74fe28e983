use Rattle.bg_runs.proofs.TeamLaws.{team_ready, all_ended, all_standing}
use Rattle.bg_runs.proofs.teams.run_team.Goals as goal

pub run_members-members-requires-clause-members : goal.run_members-members-requires-clause-members
run_members-members-requires-clause-members g c κs within =
    team_ready c.args.seed g.N.HostName.table c.args.passes.items c.in_ok-members.members.items c.in_ok-members.ensures.team c.requires.passes

pub run_members-members-requires-clause-standing : goal.run_members-members-requires-clause-standing
run_members-members-requires-clause-standing g c κs within =
    let standing = rw c.system.ensures at c.in_ok-members.ensures.standing in
    all_standing g.N.HostName.system c.in_ok-members.members.items standing

pub returns : goal.returns
returns g c =
    let ran = c.run_members-members.ensures in
    all_ended g.N.HostName.table g.N.HostName.system c.args.limit c.args.seed c.args.passes.items c.in_ok-members.members.items c.run_members-members.result.items
    c.in_ok-members.ensures.team ran.count ran.each
