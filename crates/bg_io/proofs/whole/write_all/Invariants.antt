use Rattle.std.proofs.Common.{length, ◌-◌}
use Rattle.bg_io.proofs.Turns.{HasSent}
use Rattle.bg_io.proofs.whole.write_all.Given as goal

abbrev pub invariant-loop-count : goal.invariant-loop-count
invariant-loop-count g l =
    HasSent l.count l.bytes (g.K.Sink.held l.fn.sink) (g.K.Sink.held l.sink)
    (g.K.Sink.faults l.fn.sink) (g.K.Sink.faults l.sink)

abbrev pub decreases-loop-count : goal.decreases-loop-count
decreases-loop-count g l = length l.initial.bytes - l.count
