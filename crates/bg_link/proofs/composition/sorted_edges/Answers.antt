use Rattle.std.proofs.Common.{sym, subst, ◌∙◌}
use Rattle.std.specs.List.Sorted.{IsStrictlySortedBy}
use Rattle.std.specs.Ordering.{nat_cmp}
use Rattle.bg_link.proofs.composition.sorted_edges.Goals as goal

pub merged-requires-clause-first_ascends : goal.merged-requires-clause-first_ascends
merged-requires-clause-first_ascends c =
    subst (IsStrictlySortedBy nat_cmp) (sym (c.into_vec-first.ensures ∙ c.in_ok-copy.ensures)) c.requires.upper_ascends

pub merged-requires-clause-second_ascends : goal.merged-requires-clause-second_ascends
merged-requires-clause-second_ascends c =
    subst (IsStrictlySortedBy nat_cmp) (sym (c.into_vec-second.ensures ∙ c.in_ok-copy-2.ensures)) c.requires.lower_ascends
