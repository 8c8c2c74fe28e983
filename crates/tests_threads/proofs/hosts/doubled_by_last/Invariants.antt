use Rattle.std.proofs.Common.{◌≡◌}
use Rattle.tests_threads.proofs.hosts.doubled_by_last.Given as goal

-- the pass is still of the host's table
abbrev pub invariant-loop : goal.invariant-loop
invariant-loop g l = l.last.table ≡ g.N.HostName.table
