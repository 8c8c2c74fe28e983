use Rattle.bg_incr.specs.Matches.{AreMatchesOf}
use Rattle.tests_kept.proofs.random.turns.Given as goal

abbrev pub invariant-loop-turn : goal.invariant-loop-turn
invariant-loop-turn g l = AreMatchesOf l.host l.system.rules l.kept
