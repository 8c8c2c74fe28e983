use Rattle.std.proofs.lemmas.Bool.{false≢true}
use Rattle.bg_builder.proofs.Put.{close_put}
use Rattle.bg_builder.proofs.Stacked.{one_there}
use Rattle.bg_builder.proofs.closing.put_closed.Goals as goal

pub returns : goal.returns
returns c =
    close_put c.args.lists.now c.closed.new.lists c.args.frames.now.items c.take_one.new.frames.items c.put_one.new.frames.items c.in-Some.f
    c.in_ok-whole.whole c.in-Some.ensures.taken c.in_ok-put_one.ensures c.requires.kept c.args.name.now c.args.edge c.requires.new c.in_ok-whole.ensures
