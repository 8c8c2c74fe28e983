use Rattle.std.proofs.Common.{◌≡◌, false, is_some, get_or, sym, ap}
use Rattle.bg_lists.proofs.Places.{At-get_or, get_or-At}
use Rattle.bg_cond.specs.Lists.{is_noted}
use Rattle.bg_cond.proofs.Upto.{upto_next, upto_all}
use Rattle.bg_cond.proofs.notes.first_noted.Goals as goal

pub loop-node-preserved : goal.loop-node-preserved
loop-node-preserved c =
    let nodes = c.args.nodes.now in
    let at = c.loop-node.node-index in
    let node = get_or nodes at 0 in
    upto_next (λ node. is_noted c.args.notes.now node ≡ false) nodes at node c.loop-node-test.true
    (sym (get_or-At nodes node (At-get_or nodes at 0 c.loop-node-test.true))) (ap is_some (sym c.in_default.ensures.value)) c.loop-node.invariant

pub returns : goal.returns
returns c =
    upto_all (λ node. is_noted c.args.notes.now node ≡ false) c.args.nodes.now c.loop-node.node-index c.loop-node-test.false c.loop-node.invariant
