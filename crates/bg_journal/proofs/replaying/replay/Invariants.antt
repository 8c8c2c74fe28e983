use Rattle.std.proofs.Common.{◌≤◌, take}
use Rattle.bg_cond.specs.Steps.{IsRun}
use Rattle.bg_incr.specs.Finders.{StandsFor}
use Rattle.bg_journal.proofs.replaying.replay.Given as goal

-- the entries so far are a run to the host, and the finder stands there behind no more of them
abbrev pub invariant-loop-number : goal.invariant-loop-number
invariant-loop-number l =
    IsRun l.system.rules l.system.init (take l.number l.journal) l.finder.host × StandsFor l.finder l.system × (l.finder.version ≤ l.number)
