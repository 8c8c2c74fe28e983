use Rattle.bg_builder.proofs.Trees.{names_in_tree}
use Rattle.bg_builder.proofs.tables.outer_tree.Goals as goal

pub returns : goal.returns
returns c = names_in_tree c.args.names.items c.in_ok-tree.tree.keys c.requires.ascending c.in_ok-tree.ensures.1 c.in_ok-tree.ensures.0
