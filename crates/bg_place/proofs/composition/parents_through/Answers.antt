use Rattle.std.proofs.Common.{map, sym, ap, subst, ◌∙◌}
use Rattle.std.specs.List.Sorted.{IsStrictlySortedBy}
use Rattle.bg_base.specs.Composition.{place_through}
use Rattle.bg_place.specs.Places.{parent_row, moved_row}
use Rattle.bg_place.specs.Rows.{parent_cmp}
use Rattle.bg_place.proofs.RowLaws.{parents_ascend, moved_ascend}
use Rattle.bg_place.proofs.composition.parents_through.Goals as goal

pub merged-requires-clause-first_ascends : goal.merged-requires-clause-first_ascends
merged-requires-clause-first_ascends c =
    subst (IsStrictlySortedBy parent_cmp) (sym (c.in_ok-upper.ensures ∙ ap (λ rows. map parent_row rows) c.deref.ensures))
    (parents_ascend c.args.g.now.nodes c.requires.g_ascends)

pub merged-requires-clause-second_ascends : goal.merged-requires-clause-second_ascends
merged-requires-clause-second_ascends c =
    subst (IsStrictlySortedBy parent_cmp) (sym (c.in_ok-lower.ensures ∙ ap (λ rows. map (moved_row (place_through c.args.g.now)) rows) c.deref-2.ensures))
    (moved_ascend (place_through c.args.g.now) c.args.f.now.nodes c.requires.f_ascends)
