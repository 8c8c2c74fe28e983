use Rattle.std.proofs.Common.{◌+◌, ◌++◌, sym, ap, subst, ◌∙◌, arith}
use Rattle.bg_lists.proofs.Places.{At-same, At-get_or}
use Rattle.bg_index.specs.Walks.{IsWalked}
use Rattle.bg_index.proofs.WalkLaws.{walk_begins, walk_step, walk_few}
use Rattle.bg_index.proofs.parts.walked.Goals as goal

pub loop-at-init : goal.loop-at-init
loop-at-init c =
    walk_begins c.args.host.now c.args.images.now c.args.image c.requires.host c.requires.walkable c.in_ok-numbers.numbers.items c.in_ok-numbers.ensures

pub loop-at-smaller : goal.loop-at-smaller
loop-at-smaller c =
    let few = walk_few c.args.host.now c.args.images.now c.args.image c.requires.host c.requires.walkable c.loop-at.at c.loop-at.numbers.items c.loop-at.invariant in
    let below = c.loop-at-test.true in
    let len = c.len.ensures in
    let long = c.loop-at.numbers.ok in
    omega (arith, few, below, len, long)

pub loop-at-preserved : goal.loop-at-preserved
loop-at-preserved c =
    let below = c.loop-at-test.true in
    let len = c.len.ensures in
    let long = c.loop-at.numbers.ok in
    let a = At-same (sym c.index.ensures) (At-get_or c.loop-at.numbers.items c.loop-at.at c.index.result.now (omega (arith, below, len, long))) in
    subst (IsWalked c.args.host.now.big c.args.images.now c.args.image (c.loop-at.at + 1))
    (sym (c.in_ok-extend_from_slice.ensures.items ∙ ap (λ xs. c.loop-at.numbers.items ++ xs) c.children-children.ensures.exact))
    (walk_step c.args.host.now c.args.images.now c.args.image c.requires.host c.requires.walkable c.loop-at.at c.loop-at.numbers.items c.index.result.now c.loop-at.invariant a)
