use Rattle.bg_index.specs.Readings.{AreNoted}
use Rattle.bg_index.proofs.reading.note_ports.Given as goal

abbrev pub invariant-loop-port : goal.invariant-loop-port
invariant-loop-port l = AreNoted l.outer l.links l.node l.port l.initial.ties.items l.ties.items
