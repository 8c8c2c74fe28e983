use Rattle.std.proofs.Common.{◌≡◌}
use Rattle.bg_base.specs.Climbing.{AreMarks}
use Rattle.bg_base.proofs.climbing.mark_path.Given as goal

abbrev pub invariant-loop-at : goal.invariant-loop-at
invariant-loop-at g l =
    g.C.Climbable.is_foothold l.climbable l.foothold
    × AreMarks (g.C.Climbable.value_at l.climbable) l.marks
    × (l.value ≡ g.C.Climbable.value l.climbable l.foothold)

abbrev pub decreases-loop-at : goal.decreases-loop-at
decreases-loop-at g l = g.C.Climbable.height l.climbable l.foothold
