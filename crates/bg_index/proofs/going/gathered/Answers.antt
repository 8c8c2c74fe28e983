use Rattle.std.proofs.Common.{◌+◌, ◌<◌, ◌++◌, get_or, sym, ap, subst, ◌∙◌}
use Rattle.bg_lists.proofs.Places.{At-get_or, At-same}
use Rattle.bg_index.specs.Going.{AreGathered}
use Rattle.bg_index.proofs.GoneLaws.{left_out, taken_in}
use Rattle.bg_index.proofs.going.gathered.Goals as goal
use Rattle.bg_index.proofs.going.gathered.Goals.{then-asked-site-eq0+in_ok-extend_from_slice, else-asked-site-eq0}

pub loop-site-preserved : goal.loop-site-preserved
loop-site-preserved c =
    let part = c.index-parts-site.result in
    let below = c.loop-site-test.true in
    let stands = At-same (sym c.index-parts-site.is) (At-get_or c.args.parts.now c.loop-site.site part below) in
    let counted = At-get_or c.args.asked.now c.loop-site.site 0 (subst (λ n. c.loop-site.site < n) (sym c.requires.beside) below) in
    elim c.if-asked-site-eq0.branch [
      | then-asked-site-eq0+in_ok-extend_from_slice w ↦ subst (AreGathered c.args.map.now c.args.asked.now c.args.parts.now (c.loop-site.site + 1))
          (sym (ap (λ v. v.items) w.gone-is ∙ w.in_ok-extend_from_slice.ensures.items ∙ ap (λ xs. c.loop-site.gone.items ++ xs) w.deref.ensures.value))
          (taken_in c.args.map.now c.args.asked.now c.args.parts.now c.loop-site.site c.loop-site.gone.items c.loop-site.invariant part
          (get_or c.args.asked.now c.loop-site.site 0) stands counted w.if-asked-site-eq0.true)
      | else-asked-site-eq0 w ↦ subst (AreGathered c.args.map.now c.args.asked.now c.args.parts.now (c.loop-site.site + 1))
          (sym (ap (λ v. v.items) w.gone-is))
          (left_out c.args.map.now c.args.asked.now c.args.parts.now c.loop-site.site c.loop-site.gone.items c.loop-site.invariant part
          (get_or c.args.asked.now c.loop-site.site 0) stands counted w.if-asked-site-eq0.false)
    ]
