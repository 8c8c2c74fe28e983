use Rattle.std.proofs.Common.{◌∙◌, ap}
use Rattle.bg_base.specs.Order.{name_cmp}
use Rattle.bg_lists.specs.Orders.{set_of}
use Rattle.bg_builder.proofs.Trees.{set_in_tree}
use Rattle.bg_builder.proofs.tables.name_tree.Goals as goal

pub returns : goal.returns
returns c =
    set_in_tree _ c.in_ok-tree.tree.keys c.in_ok-tree.ensures.1 c.in_ok-tree.ensures.0 ∙ ap (set_of name_cmp) c.in_ok-copies.ensures
