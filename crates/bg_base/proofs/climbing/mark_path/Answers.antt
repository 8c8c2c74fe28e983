use Rattle.std.proofs.Common.{◌∙◌}
use Rattle.bg_base.proofs.MarkLaws.{marked_more}
use Rattle.bg_base.proofs.climbing.mark_path.Goals as goal

pub loop-at-preserved : goal.loop-at-preserved
loop-at-preserved g c =
    let below = c.in-Row.ensures in (
      below.can,
      rw c.set_mark.ensures
          (marked_more (g.C.Climbable.value_at c.args.climbable.now) c.loop-at.marks c.in-Row.at c.args.value _
          c.loop-at.invariant.1 c.loop-at.invariant.2 below.row),
      c.loop-at.invariant.2 ∙ below.same,
    )
