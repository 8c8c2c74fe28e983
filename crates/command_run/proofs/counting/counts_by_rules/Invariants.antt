use Rattle.std.proofs.Common.{◌≡◌, length}
use Rattle.bg_rules.specs.Reaction.{HostState}
use Rattle.command_run.proofs.Counted.{AreCountedTo}
use Rattle.command_run.proofs.counting.counts_by_rules.Given as goal

-- the entries so far are counted, and so many nodes has the host after them
abbrev pub invariant-loop-entry : goal.invariant-loop-entry
invariant-loop-entry l =
    (last : HostState) × (host : HostState) × AreCountedTo l.system.rules l.system.init l.entries l.entry-index host l.counts.items last
    × (l.count ≡ length host.big.nodes)
