use Rattle.std.proofs.Common.{◌<◌, ◌≤◌, ◌-◌, ℕ, List, length, rules, ap}
use Rattle.bg_cond.proofs.Upto.{item_at}
use Rattle.bg_cond.specs.Drawn.{most_candidates}
use Rattle.bg_incr.proofs.PickLaws.{counted_full, counted_all}
use Rattle.bg_incr.proofs.picking.count_of.Goals as goal

pub returns-then-more-count : goal.returns-then-more-count
returns-then-more-count c =
    let number = c.loop-number.number in
    let inside : number < length c.args.lists.now = search rules in
    let full : most_candidates - c.loop-number.count ≤ length c.maps_of-more.result.now = search rules in
    counted_full c.args.class c.args.rules.now c.args.lists.now number c.loop-number.count c.index-rules-number.result c.index-lists-number.result
    (item_at c.args.rules.now number c.index-rules-number.result c.loop-number-test.true c.index-rules-number.is)
    (item_at c.args.lists.now number c.index-lists-number.result inside c.index-lists-number.is) c.loop-number.invariant
    (length c.maps_of-more.result.now) (ap (λ (maps : List (List ℕ)). length maps) c.maps_of-more.ensures) full

pub returns : goal.returns
returns c =
    let past : length c.args.rules.now ≤ c.loop-number.number = search rules in
    counted_all c.args.class c.args.rules.now c.args.lists.now c.loop-number.number c.loop-number.count past c.loop-number.invariant
