use Rattle.std.proofs.Common.{◌≡◌, map}
use Rattle.bg_runs.specs.Teams.{member_pass, HaveEnds}
use Rattle.bg_runs.proofs.teams.passes_of.Given as goal

-- the pass of each member so far, which came to an end
abbrev pub invariant-loop-member : goal.invariant-loop-member
invariant-loop-member l = (l.passes.items ≡ map member_pass l.yielded) × HaveEnds l.yielded
