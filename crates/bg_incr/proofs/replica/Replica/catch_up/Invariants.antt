use Rattle.bg_incr.proofs.Following.{IsFollowing}
use Rattle.bg_incr.proofs.replica.Replica.catch_up.Given as goal

abbrev pub invariant-loop-entry : goal.invariant-loop-entry
invariant-loop-entry l = IsFollowing l.fn.system.rules l.fn.self.version l.fn.self.host l.entries l.entry-index l.self.version l.self.host
