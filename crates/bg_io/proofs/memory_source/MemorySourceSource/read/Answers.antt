use Rattle.bg_io.proofs.Given.{gives_next}
use Rattle.bg_io.proofs.memory_source.MemorySourceSource.read.Goals as goal

pub returns-clause-bytes : goal.returns-clause-bytes
returns-clause-bytes c =
    let source = c.args.self.now in
    let gives = gives_next source.given c.copy_front-count.result source.piece source.bytes.items c.deref.result.now c.copy_front-count.new.into
    c.deref.ensures.value source.within source.moves c.copy_front-count.ensures.count c.copy_front-count.ensures.front in
    (gives.next, gives.ended)
