use Rattle.std.proofs.Common.{subst, sym}
use Rattle.std.specs.List.Sorted.{IsStrictlySortedBy}
use Rattle.bg_base.specs.Bigraph.{inner_cmp}
use Rattle.bg_builder.proofs.Trees.{closed_ascend}
use Rattle.bg_builder.proofs.tables.inner_closed.Goals as goal

pub inner_tree-requires : goal.inner_tree-requires
inner_tree-requires c =
    record {
      ascending = subst (IsStrictlySortedBy inner_cmp) (sym c.closed-rows.ensures)
          (closed_ascend c.args.name.now c.args.edge c.in_ok-inner_list.field-0.items c.in_ok-inner_list.ensures.ascending);
    }
