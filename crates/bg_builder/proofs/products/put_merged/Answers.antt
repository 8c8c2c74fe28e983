use Rattle.std.proofs.lemmas.Bool.{false≢true}
use Rattle.bg_builder.proofs.Put.{merge_put}
use Rattle.bg_builder.proofs.Stacked.{two_there}
use Rattle.bg_builder.proofs.products.put_merged.Goals as goal

pub unreachable-requires : goal.unreachable-requires
unreachable-requires c = false≢true (c.in_default.ensures.there (two_there c.args.lists.now c.args.frames.now.items c.requires.follow))

pub returns : goal.returns
returns c =
    merge_put c.args.lists.now c.in_one.new.lists c.args.frames.now.items c.take_two.new.frames.items c.put_one.new.frames.items c.in-Some.g c.in-Some.f
    c.in_ok-whole.whole c.in-Some.ensures.taken c.in_ok-put_one.ensures c.requires.kept c.requires.follow c.requires.inner c.in_ok-whole.ensures
