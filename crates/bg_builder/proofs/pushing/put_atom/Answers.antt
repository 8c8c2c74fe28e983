use Rattle.bg_builder.proofs.Put.{atom_put}
use Rattle.bg_builder.proofs.pushing.put_atom.Goals as goal

pub returns : goal.returns
returns c =
    atom_put c.args.lists.now c.lay_node.new.lists c.args.frames.now.items c.put_one.new.frames.items c.in_ok-frame.frame c.args.control c.args.node c.args.names
    c.in_ok-put_one.ensures c.requires.kept c.in_ok-frame.ensures
