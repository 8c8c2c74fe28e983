use Rattle.std.proofs.Common.{◌==◌, length, nat_cmp, sym, subst, ◌∙◌}
use Rattle.std.specs.List.Sorted.{IsStrictlySortedBy}
use Rattle.bg_base.specs.declared.names.Link.TheVariants.{Edge}
use Rattle.bg_link.specs.Links.{points_of}
use Rattle.bg_lists.proofs.Ascents.{Ascending-filter, Ascending-from_sorted, sorted_from_Ascending}
use Rattle.bg_link.proofs.wiring.Wiring.idle_edges.Goals as goal

pub returns-clause-ascending : goal.returns-clause-ascending
returns-clause-ascending c =
    let links = c.self.inside.groups in
    subst (IsStrictlySortedBy nat_cmp) (sym (c.as_slice.ensures.value ∙ c.self.invariant.exact))
    (sorted_from_Ascending {cmp = nat_cmp} _
    (Ascending-filter (λ edge. length (points_of links (Edge edge)) == 0) links.edges (Ascending-from_sorted links.edges c.self.invariant.edges_ascend)))
