use Rattle.std.proofs.Common.{sym}
use Rattle.bg_lists.proofs.Places.{At-get_or, At-same}
use Rattle.bg_index.proofs.ReadingLaws.{noted_step}
use Rattle.bg_index.proofs.reading.note_ports.Goals as goal

pub loop-port-preserved : goal.loop-port-preserved
loop-port-preserved c =
    let link = c.index-links-port.result in
    noted_step c.args.outer.now c.args.links.now c.args.node c.loop-port.port link c.args.ties.now.items c.loop-port.ties.items c.note_port.new.ties.items
    (At-same (sym c.index-links-port.is) (At-get_or c.args.links.now c.loop-port.port link c.loop-port-test.true))
    c.loop-port.invariant c.note_port.ensures
