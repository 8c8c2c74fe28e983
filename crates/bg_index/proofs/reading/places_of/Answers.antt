use Rattle.std.proofs.Common.{◌≡◌, ◌+◌, ◌<◌, List, length, get_or, sym, ap, subst, ◌∙◌, arith}
use Rattle.bg_lists.specs.Lists.{At}
use Rattle.bg_lists.proofs.Places.{At-get_or, At-same}
use Rattle.bg_base.specs.declared.big.NodeRow.{NodeRow}
use Rattle.bg_index.specs.Readings.{ArePlaced}
use Rattle.bg_index.proofs.ReadingLaws.{there_at, region_step, node_step, places_end}
use Rattle.bg_index.proofs.reading.places_of.Goals as goal
use Rattle.bg_index.proofs.reading.places_of.Goals.{in-Region, in-Node}

pub parent-requires : goal.parent-requires
parent-requires c =
    let row = c.row-item.result in
    let stands = subst (λ (rows : List NodeRow). At row c.loop-at.at rows) c.deref-row-items.ensures
    (At-same (sym c.row-item.is) (At-get_or c.deref-row-items.result.now c.loop-at.at row c.loop-at-test.true)) in
    let inside = subst (λ n. c.loop-at.at < n) c.requires.meets.nodes_new.as_many
    (subst (λ (rows : List NodeRow). c.loop-at.at < length rows) c.deref-row-items.ensures c.loop-at-test.true) in
    record {
      there = there_at c.args.host.now.big c.args.redex.now c.args.map.now c.requires.pattern c.requires.meets stands
          (At-get_or c.args.map.now c.loop-at.at 0 inside);
    }

pub loop-at-preserved : goal.loop-at-preserved
loop-at-preserved c =
    let row = c.row-item.result in
    let stands = subst (λ (rows : List NodeRow). At row c.loop-at.at rows) c.deref-row-items.ensures
    (At-same (sym c.row-item.is) (At-get_or c.deref-row-items.result.now c.loop-at.at row c.loop-at-test.true)) in
    let inside = subst (λ n. c.loop-at.at < n) c.requires.meets.nodes_new.as_many
    (subst (λ (rows : List NodeRow). c.loop-at.at < length rows) c.deref-row-items.ensures c.loop-at-test.true) in
    elim c.match-row.branch [
      | in-Region w ↦ subst (ArePlaced c.args.host.now.big c.args.redex.now c.args.map.now (c.loop-at.at + 1)) (ap (λ v. v.items) (sym w.places-is))
          (region_step c.args.host.now.big c.args.redex.now c.args.map.now c.requires.pattern c.requires.meets c.requires.host.numbered.ground.valid
          c.loop-at.at (get_or c.args.map.now c.loop-at.at 0) row stands (At-get_or c.args.map.now c.loop-at.at 0 inside) w.parent.result w.parent.ensures
          c.loop-at.places.items c.loop-at.invariant w.in-Region.region w.in-Region.is)
      | in-Node w ↦ subst (ArePlaced c.args.host.now.big c.args.redex.now c.args.map.now (c.loop-at.at + 1)) (ap (λ v. v.items) (sym w.places-is))
          (node_step c.args.host.now.big c.args.redex.now c.args.map.now c.requires.pattern c.requires.meets c.loop-at.at row stands w.in-Node.field-0 w.in-Node.is
          c.loop-at.places.items c.loop-at.invariant)
    ]

pub returns-clause-are : goal.returns-clause-are
returns-clause-are c =
    let ends = c.loop-at.auto.at-end in
    let past = c.loop-at-test.false in
    let all : c.loop-at.at ≡ length c.deref-row-items.result.now = omega (arith, ends, past) in
    places_end c.args.host.now.big c.args.redex.now c.args.map.now c.requires.pattern c.requires.meets c.loop-at.places.items
    (subst (λ n. ArePlaced c.args.host.now.big c.args.redex.now c.args.map.now n c.loop-at.places.items) (all ∙ ap length c.deref-row-items.ensures) c.loop-at.invariant)
