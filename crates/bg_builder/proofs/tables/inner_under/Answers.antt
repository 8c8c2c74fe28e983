use Rattle.std.proofs.Common.{subst, sym}
use Rattle.std.specs.List.Sorted.{IsStrictlySortedBy}
use Rattle.bg_base.specs.Bigraph.{inner_cmp}
use Rattle.bg_builder.proofs.Trees.{tied_anew_ascend}
use Rattle.bg_builder.proofs.tables.inner_under.Goals as goal

pub inner_tree-requires : goal.inner_tree-requires
inner_tree-requires c =
    record {
      ascending = subst (IsStrictlySortedBy inner_cmp) (sym c.in_ok-rows.ensures)
          (tied_anew_ascend c.args.inner.now c.in_ok-inner_list.field-0.items c.in_ok-inner_list.ensures.ascending);
    }
