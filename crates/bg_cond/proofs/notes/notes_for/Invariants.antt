use Rattle.bg_cond.proofs.NoteLaws.{AreNotedUpto}
use Rattle.bg_cond.proofs.notes.notes_for.Given as goal

abbrev pub invariant-loop-number : goal.invariant-loop-number
invariant-loop-number g l = AreNotedUpto (g.H.HostLookup.big l.host) l.maps l.notes l.number
