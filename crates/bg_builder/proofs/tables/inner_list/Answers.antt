use Rattle.std.proofs.Common.{subst, sym}
use Rattle.std.specs.List.Sorted.{IsStrictlySortedBy}
use Rattle.bg_base.specs.Bigraph.{inner_cmp}
use Rattle.bg_builder.proofs.Trees.{rows_ascend}
use Rattle.bg_builder.proofs.tables.inner_list.Goals as goal

pub returns-clause-ascending : goal.returns-clause-ascending
returns-clause-ascending c =
    subst (IsStrictlySortedBy inner_cmp) (sym c.in_ok-rows.ensures) (rows_ascend c.args.tree.entries c.len-count.ensures.ordered)
