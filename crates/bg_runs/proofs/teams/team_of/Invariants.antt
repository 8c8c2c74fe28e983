use Rattle.std.specs.List.{AllByRecursion}
use Rattle.bg_runs.specs.Teams.{IsTeam, StandsFirst}
use Rattle.bg_runs.proofs.teams.team_of.Given as goal

-- a member for each pass so far, whose follower stands for the system's first host
abbrev pub invariant-loop-pass : goal.invariant-loop-pass
invariant-loop-pass l = IsTeam l.seed l.yielded l.members.items × AllByRecursion (StandsFirst l.system) l.members.items
