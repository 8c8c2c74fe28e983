use Rattle.std.proofs.Common.{length, ◌-◌}
use Rattle.bg_io.proofs.Turns.{HasFilled}
use Rattle.bg_io.proofs.whole.fill.Given as goal

abbrev pub invariant-loop-count : goal.invariant-loop-count
invariant-loop-count g l =
    HasFilled l.count l.buf (g.S.Source.left l.fn.source) (g.S.Source.left l.source)
    (g.S.Source.faults l.fn.source) (g.S.Source.faults l.source)
    (g.S.Source.reads l.fn.source) (g.S.Source.reads l.source)

abbrev pub decreases-loop-count : goal.decreases-loop-count
decreases-loop-count g l = length l.initial.buf - l.count
