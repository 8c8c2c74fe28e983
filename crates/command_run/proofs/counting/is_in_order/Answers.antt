use Rattle.std.proofs.Common.{◌≡◌, ◌+◌, ◌<◌, length, arith, slice_get, Some}
use Rattle.bg_lists.specs.Lists.{At}
use Rattle.bg_lists.proofs.Places.{At-below, slice_get-At}
use Rattle.command_run.proofs.NodeCounts.{in_order}
use Rattle.command_run.proofs.counting.is_in_order.Goals as goal

pub returns : goal.returns
returns c = λ passes.
    in_order 0 c.args.numbers.now (λ i x a.
    let below = At-below a in
    let past = c.loop-at-test.false in
    let it = c.loop-at.invariant i x (omega (arith, below, past)) (slice_get-At c.args.numbers.now a) in
    omega (arith, it))
