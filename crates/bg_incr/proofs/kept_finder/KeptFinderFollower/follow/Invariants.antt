use Rattle.bg_incr.specs.Finders.{StandsFor}
use Rattle.bg_incr.proofs.Following.{IsFollowing}
use Rattle.bg_incr.proofs.kept_finder.KeptFinderFollower.follow.Given as goal

-- it has followed the entries so far, and stands there under the system
abbrev pub invariant-loop-entry : goal.invariant-loop-entry
invariant-loop-entry l =
    StandsFor l.self l.fn.system × IsFollowing l.fn.system.rules l.fn.self.version l.fn.self.host l.entries l.entry-index l.self.version l.self.host
