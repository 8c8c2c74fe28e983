use Rattle.std.proofs.Common.{◌∙◌, ap, subst, sym}
use Rattle.std.specs.List.Sorted.{IsStrictlySortedBy}
use Rattle.bg_base.specs.Bigraph.{inner_cmp}
use Rattle.bg_builder.specs.Frames.{inner_rows}
use Rattle.bg_builder.proofs.Trees.{entries_in_tree, keys_ascend}
use Rattle.bg_builder.proofs.tables.inner_tree.Goals as goal

pub returns : goal.returns
returns c =
    let up = keys_ascend c.in_ok-pairs.pairs.items (subst (IsStrictlySortedBy inner_cmp) (sym c.in_ok-pairs.ensures) c.requires.ascending) in
    ap inner_rows (entries_in_tree c.in_ok-pairs.pairs.items c.in_ok-tree.tree.entries up c.in_ok-tree.ensures.1 c.in_ok-tree.ensures.0) ∙ c.in_ok-pairs.ensures
