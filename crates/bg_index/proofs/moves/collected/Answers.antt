use Rattle.std.proofs.Common.{◌≡◌, ◌++◌, ℕ, List, length, get_or, refl, sym, ap, subst, ◌∙◌, arith}
use Rattle.bg_lists.specs.Lists.{At}
use Rattle.bg_base.specs.declared.big.Big.{Big}
use Rattle.bg_base.specs.declared.names.Place.TheVariants.{Node}
use Rattle.bg_rules.specs.LocalConditions.{image_of}
use Rattle.bg_index.specs.Copying.{AreMoved, moves_to, tops_at}
use Rattle.bg_index.specs.Readings.{boundary_of}
use Rattle.bg_index.proofs.MoveLaws.{none_moved, move_step}
use Rattle.bg_index.proofs.moves.collected.Goals as goal

pub loop-at-init : goal.loop-at-init
loop-at-init c =
    none_moved c.args.host.now c.args.rule.now c.args.map.now c.args.reading.now c.requires.read c.new-moves.result.items c.new-moves.ensures.items

pub loop-at-preserved : goal.loop-at-preserved
loop-at-preserved c =
    let site = get_or c.args.entries.now c.loop-at.at 0 in
    let flag = c.index.result.now in
    let redex : c.big.result.now ≡ c.args.rule.now.redex = c.big.ensures.same ∙ c.redex.ensures.same in
    let given : (node : ℕ) → At (Node node) site c.args.rule.now.redex.sites
    → c.in_ok-nodes.nodes.items ≡ tops_at c.args.host.now.big c.args.reading.now.images.items flag (image_of c.args.rule.now.redex c.args.map.now node) =
    λ node a.
    c.in_ok-nodes.ensures node (subst (λ (big : Big). At (Node node) site big.sites) (sym redex) a)
    ∙ ap (λ (images : List ℕ). tops_at c.args.host.now.big images flag (image_of c.big.result.now c.args.map.now node)) c.deref.ensures.value
    ∙ ap (λ (big : Big). tops_at c.args.host.now.big c.args.reading.now.images.items flag (image_of big c.args.map.now node)) redex in
    move_step c.args.host.now c.args.rule.now c.args.map.now c.args.reading.now c.requires.read c.args.entries.now c.requires.entries
    c.args.reading.now.late.items c.requires.late c.loop-at.at site 0 flag flag c.loop-at-test.true refl c.index.ensures c.in_ok-nodes.nodes.items given
    c.top_made-place.result c.top_made-place.ensures c.loop-at.moves.items c.push_moves.new.moves.items
    (c.in_ok-push_moves.ensures ∙ ap (λ (nodes : List ℕ). c.loop-at.moves.items ++ moves_to c.top_made-place.result nodes) c.deref-in-loop-at.ensures.value)
    c.loop-at.invariant

pub returns : goal.returns
returns c =
    let ends = c.loop-at.auto.at-end in
    let past = c.loop-at-test.false in
    let all : c.loop-at.at ≡ length c.args.entries.now = omega (arith, ends, past) in
    subst (λ n. AreMoved c.args.host.now c.args.rule.now c.args.map.now (boundary_of c.args.reading.now) n c.loop-at.moves.items) all c.loop-at.invariant
