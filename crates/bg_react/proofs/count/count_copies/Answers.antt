use Rattle.std.proofs.Common.{◌+◌, ◌<◌, List, length, refl, ap, arith}
use Rattle.bg_base.specs.declared.big.NodeRow.{NodeRow}
use Rattle.bg_react.proofs.CopyByCopy.{none_counted, one_more_counted, passes_most, all_counted}
use Rattle.bg_react.proofs.count.count_copies.Goals as goal

pub loop-region-init : goal.loop-region-init
loop-region-init c = (
  none_counted c.args.parts.now c.args.entries.now c.new-seen.result.keys c.new-seen.ensures.empty,
  omega arith,
)

pub returns-then-nodes-most : goal.returns-then-nodes-most
returns-then-nodes-most c =
    let passes : c.args.most < c.loop-region.count.nodes + length c.part-nodes.result.now = omega arith in
    passes_most c.args.parts.now c.args.entries.now c.loop-region.region-index _ 0 c.loop-region.count.nodes c.loop-region.count.late c.args.most
    (length c.part-nodes.result.now) c.loop-region.seen.keys c.loop-region-test.true refl c.loop-region.invariant.0
    (ap (λ (rows : List NodeRow). length rows) c.part-nodes.ensures) passes

pub loop-region-preserved : goal.loop-region-preserved
loop-region-preserved c = (
  one_more_counted c.args.parts.now c.args.entries.now c.loop-region.region-index _ 0 c.loop-region.count.nodes c.loop-region.count.late
      c.count_with-count.result.nodes c.count_with-count.result.late (length c.part-nodes.result.now) c.loop-region.seen.keys c.insert.new.self.keys
      c.in_ok-is_new.is_new c.loop-region-test.true refl c.loop-region.invariant.0 c.in_ok-is_new.ensures.added c.in_ok-is_new.ensures.updates.0
      (ap (λ (rows : List NodeRow). length rows) c.part-nodes.ensures) c.count_with-count.ensures.nodes c.count_with-count.ensures.late,
  omega arith,
)

pub returns : goal.returns
returns c =
    let counted = all_counted c.args.parts.now c.args.entries.now c.loop-region.region-index c.loop-region.count.nodes c.loop-region.count.late
    c.loop-region.seen.keys c.loop-region-test.false c.loop-region.invariant.0 in
    (counted.0, c.loop-region.invariant.1, counted.1)
