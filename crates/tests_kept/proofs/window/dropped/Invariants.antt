use Rattle.bg_incr.specs.Matches.{AreMatchesOf}
use Rattle.tests_kept.proofs.window.dropped.Given as goal

abbrev pub invariant-loop-node : goal.invariant-loop-node
invariant-loop-node l = AreMatchesOf l.host l.system.rules l.kept
