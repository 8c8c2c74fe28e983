use Rattle.std.proofs.Common.{◌≡◌}
use Rattle.bg_base.proofs.climbing.value_above.Given as goal

abbrev pub invariant-loop-value : goal.invariant-loop-value
invariant-loop-value g l =
    g.C.Climbable.is_foothold l.climbable l.foothold
    × (g.C.Climbable.value l.climbable l.foothold ≡ g.C.Climbable.value l.climbable l.fn.start)

abbrev pub decreases-loop-value : goal.decreases-loop-value
decreases-loop-value g l = g.C.Climbable.height l.climbable l.foothold
