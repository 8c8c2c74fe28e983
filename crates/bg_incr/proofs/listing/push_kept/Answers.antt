use Rattle.std.proofs.Common.{◌<◌, ◌≤◌, ◌∙◌, ◌++◌, ◌∷◌, [], ℕ, List, ap, length, rules}
use Rattle.bg_incr.proofs.Pushed.{pushing_begins, pushing_next, pushing_full, pushing_ends}
use Rattle.bg_incr.proofs.listing.push_kept.Goals as goal

pub loop-map-init : goal.loop-map-init
loop-map-init c = pushing_begins c.args.most c.args.number c.args.maps.now c.args.steps.now.items c.requires.few

pub returns-then-len-most : goal.returns-then-len-most
returns-then-len-most c =
    let more : c.args.most ≤ length c.loop-map.steps.items = search rules in
    pushing_full c.args.most c.args.number c.args.maps.now c.args.steps.now.items c.loop-map.map-index c.loop-map.steps.items more c.loop-map.invariant

pub loop-map-preserved : goal.loop-map-preserved
loop-map-preserved c =
    let room : length c.loop-map.steps.items < c.args.most = search rules in
    let inside : c.loop-map.map-index < length c.args.maps.now = search rules in
    pushing_next c.args.most c.args.number c.args.maps.now c.args.steps.now.items c.loop-map.map-index c.map-item.result c.loop-map.steps.items c.push.new.self.items
    inside c.map-item.is room
    (c.in_ok-push.ensures.items ∙ ap (λ (nodes : List ℕ). c.loop-map.steps.items ++ record { rule = c.args.number; map = nodes } ∷ []) c.in_ok-map.ensures)
    c.loop-map.invariant

pub returns : goal.returns
returns c =
    let ended : length c.args.maps.now ≤ c.loop-map.map-index = search rules in
    pushing_ends c.args.most c.args.number c.args.maps.now c.args.steps.now.items c.loop-map.map-index c.loop-map.steps.items ended c.loop-map.invariant
