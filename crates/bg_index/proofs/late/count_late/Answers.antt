use Rattle.std.proofs.Common.{List, get_or, refl, sym, ap, ◌∙◌, arith}
use Rattle.bg_index.specs.declared.reading.Part.{Part}
use Rattle.bg_index.specs.Copying.{parts_of, late_part}
use Rattle.bg_index.proofs.LateLaws.{none_late, count_step, count_all}
use Rattle.bg_index.proofs.late.count_late.Goals as goal

pub loop-at-init : goal.loop-at-init
loop-at-init c = (sym (none_late (parts_of c.args.reading.now.parts.items) c.args.entries.now), omega arith)

pub returns-then-nodes-most : goal.returns-then-nodes-most
returns-then-nodes-most c =
    let given = c.late_part-nodes.ensures ∙ ap (λ (parts : List Part). late_part (parts_of parts) c.index.result.now (get_or c.args.entries.now c.loop-at.at 0)) c.deref.ensures.value in
    let step = count_step (parts_of c.args.reading.now.parts.items) c.args.entries.now c.args.reading.now.late.items c.requires.late c.loop-at.at (get_or c.args.entries.now c.loop-at.at 0) 0 c.loop-at.count c.index.result.now
    c.index.result.now c.late_part-nodes.result.now c.loop-at-test.true refl c.index.ensures given c.loop-at.invariant.0 in
    let passes = c.if-nodes-most.true in
    let most = step.1 in
    let few = c.loop-at.invariant.1 in
    omega (arith, passes, most, few)

pub loop-at-preserved : goal.loop-at-preserved
loop-at-preserved c =
    let given = c.late_part-nodes.ensures ∙ ap (λ (parts : List Part). late_part (parts_of parts) c.index.result.now (get_or c.args.entries.now c.loop-at.at 0)) c.deref.ensures.value in
    let step = count_step (parts_of c.args.reading.now.parts.items) c.args.entries.now c.args.reading.now.late.items c.requires.late c.loop-at.at (get_or c.args.entries.now c.loop-at.at 0) 0 c.loop-at.count c.index.result.now
    c.index.result.now c.late_part-nodes.result.now c.loop-at-test.true refl c.index.ensures given c.loop-at.invariant.0 in
    let passes = c.if-nodes-most.false in
    let few = c.loop-at.invariant.1 in
    (step.0, omega (arith, passes, few))

pub returns : goal.returns
returns c = (
  count_all (parts_of c.args.reading.now.parts.items) c.args.entries.now c.args.reading.now.late.items c.requires.late c.loop-at.at c.loop-at.count
      c.loop-at-test.false c.loop-at.invariant.0,
  c.loop-at.invariant.1,
)
