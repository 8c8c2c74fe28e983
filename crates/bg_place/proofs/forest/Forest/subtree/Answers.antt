use Rattle.std.proofs.Common.{nat_cmp, sym, subst}
use Rattle.std.specs.List.Sorted.{IsStrictlySortedBy}
use Rattle.bg_place.specs.declared.graph.ParentRow.{ParentRow}
use Rattle.bg_place.specs.Places.{is_within}
use Rattle.bg_place.specs.Rows.{parent_cmp}
use Rattle.bg_place.proofs.GroupLaws.{numbers_ascend}
use Rattle.bg_place.proofs.forest.Forest.subtree.Goals as goal

pub returns-clause-ascending : goal.returns-clause-ascending
returns-clause-ascending c =
    let rows = c.as_slice.result.now in
    subst (IsStrictlySortedBy nat_cmp) (sym c.in_ok-nodes.ensures)
    (numbers_ascend (λ (row : ParentRow). is_within rows c.args.node row.node) rows
    (subst (IsStrictlySortedBy parent_cmp) (sym c.as_slice.ensures.same) c.self.invariant.ascending))
