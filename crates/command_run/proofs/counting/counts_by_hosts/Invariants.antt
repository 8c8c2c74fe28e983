use Rattle.bg_rules.specs.Reaction.{HostState}
use Rattle.command_run.proofs.Counted.{AreCountedTo}
use Rattle.command_run.proofs.counting.counts_by_hosts.Given as goal

-- the entries so far are counted
abbrev pub invariant-loop-entry : goal.invariant-loop-entry
invariant-loop-entry l =
    (last : HostState) × AreCountedTo l.system.rules l.system.init l.entries l.entry-index l.host l.counts.items last
