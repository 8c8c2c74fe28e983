use Rattle.std.proofs.Common.{subst, sym}
use Rattle.std.specs.List.Sorted.{IsStrictlySortedBy}
use Rattle.bg_base.specs.Bigraph.{node_cmp}
use Rattle.bg_builder.proofs.Moved.{moved_ascend}
use Rattle.bg_builder.proofs.composition.composed_nodes.Goals as goal

pub merged-requires-clause-second_ascends : goal.merged-requires-clause-second_ascends
merged-requires-clause-second_ascends c =
    subst (IsStrictlySortedBy node_cmp) (sym c.in_ok-moved.ensures)
    (moved_ascend c.args.inner.now c.args.sites.now c.args.lower c.requires.lower_ascends)
