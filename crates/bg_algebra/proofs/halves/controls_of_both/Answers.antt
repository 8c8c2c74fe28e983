use Rattle.std.proofs.Common.{sym, subst}
use Rattle.std.specs.List.Sorted.{IsStrictlySortedBy}
use Rattle.bg_algebra.specs.Halves.{control_cmp}
use Rattle.bg_algebra.proofs.Joining.{controls_ascend}
use Rattle.bg_algebra.proofs.halves.controls_of_both.Goals as goal

pub merged-requires-clause-first_ascends : goal.merged-requires-clause-first_ascends
merged-requires-clause-first_ascends c =
    subst (IsStrictlySortedBy control_cmp) (sym c.in_ok-upper.ensures) (controls_ascend c.args.first.now c.requires.first_ascends)

pub merged-requires-clause-second_ascends : goal.merged-requires-clause-second_ascends
merged-requires-clause-second_ascends c =
    subst (IsStrictlySortedBy control_cmp) (sym c.in_ok-lower.ensures) (controls_ascend c.args.second.now c.requires.second_ascends)
