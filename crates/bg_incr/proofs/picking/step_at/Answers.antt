use Rattle.std.proofs.Common.{◌<◌, ◌≤◌, ℕ, List, length, rules, sym, ap, subst}
use Rattle.bg_lists.specs.Lists.{At}
use Rattle.bg_base.specs.declared.history.Step.{Step}
use Rattle.bg_cond.proofs.Upto.{item_at}
use Rattle.bg_incr.specs.Picking.{steps_kept}
use Rattle.bg_incr.proofs.PickLaws.{left_here, left_next}
use Rattle.bg_incr.proofs.picking.step_at.Goals as goal

pub returns-then-left-maps : goal.returns-then-left-maps
returns-then-left-maps c =
    let number = c.loop-number.number in
    let inside : number < length c.args.lists.now = search rules in
    let maps = c.maps_of-maps.result.now in
    let nodes = c.index-maps-left.result in
    let at = subst (λ (ms : List (List ℕ)). At nodes c.loop-number.left ms) c.maps_of-maps.ensures
    (item_at maps c.loop-number.left nodes c.if-left-maps.true c.index-maps-left.is) in
    subst (λ (step : Step). At step c.args.place (steps_kept c.args.class 0 c.args.rules.now c.args.lists.now)) (sym c.in_ok-step.ensures)
    (left_here c.args.class c.args.rules.now c.args.lists.now c.args.place number c.loop-number.left c.index-rules-number.result c.index-lists-number.result
    (item_at c.args.rules.now number c.index-rules-number.result c.loop-number-test.true c.index-rules-number.is)
    (item_at c.args.lists.now number c.index-lists-number.result inside c.index-lists-number.is) c.loop-number.invariant nodes at)

pub loop-number-preserved : goal.loop-number-preserved
loop-number-preserved c =
    let number = c.loop-number.number in
    let inside : number < length c.args.lists.now = search rules in
    let past : length c.maps_of-maps.result.now ≤ c.loop-number.left = search rules in
    left_next c.args.class c.args.rules.now c.args.lists.now c.args.place number c.loop-number.left c.index-rules-number.result c.index-lists-number.result
    (item_at c.args.rules.now number c.index-rules-number.result c.loop-number-test.true c.index-rules-number.is)
    (item_at c.args.lists.now number c.index-lists-number.result inside c.index-lists-number.is) c.loop-number.invariant
    (length c.maps_of-maps.result.now) (ap (λ (ms : List (List ℕ)). length ms) c.maps_of-maps.ensures) past
