use Rattle.bg_base.specs.Climbing.{depth}
use Rattle.bg_cond.proofs.NoteLaws.{AreNotedTo}
use Rattle.bg_cond.proofs.notes.note_up.Given as goal

abbrev pub invariant-loop-place : goal.invariant-loop-place
invariant-loop-place g l = AreNotedTo (g.H.HostLookup.big l.host) l.initial.notes l.notes l.fn.start l.place

abbrev pub decreases-loop-place : goal.decreases-loop-place
decreases-loop-place g l = depth (g.H.HostLookup.big l.host) l.place
