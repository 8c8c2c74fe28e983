-- Written by tools/grammar.py.
use Rattle.std.proofs.Common.{[], ◌∷◌, ◌≡◌, refl, arith}
use Rattle.bg_syntax.specs.Grammar.{model_ways, model_deepens, grammar}
use Rattle.bg_syntax.specs.Steps.{opens}
use Rattle.bg_syntax.specs.Reading.{fails_memory}
use Rattle.bg_syntax.proofs.Readings.{moves_none, moves_next, moves_open, moves_same, loops_same, loops_open, fails_here, fails_next, fails_open, err_exit, err_item, gathered_none, gathered_more, gathered_end, gathered_fails}
use Rattle.bg_syntax.specs.ArithmeticSteps.{x1_item_steps, x1_steps, t1_item_steps, t1_steps}
use Rattle.bg_syntax.proofs.ArithmeticTrees.{x_made1, x1_made1, x1_made2, t_made1, t1_made1, t1_made2, u_made1, u_made2, u_made3, u_made4, u_made5}
use Rattle.bg_syntax.specs.declared.symbol.Symbol.TheVariants as symbols
use Rattle.bg_syntax.proofs.reader.Reader.+arithmetic.Goals as goal

pub x-returns-in_err-part1 : goal.x-returns-in_err-part1
unfolding grammar model_ways model_deepens
x-returns-in_err-part1 t c = let known = c.in_ok-choose.ensures.known in let e : c.in_ok-choose.field-0 ≡ 0 = omega arith in err_exit _ _ _ c.from_residual-in_err-part1.ensures.1 (fails_open _ 0 c.in_ok-choose.ensures e (fails_here _ c.in_err-part1.ensures))

pub x-returns-in_err-box1 : goal.x-returns-in_err-box1
unfolding grammar model_ways model_deepens
x-returns-in_err-box1 t c = err_exit _ _ _ c.from_residual-in_err-box1.ensures.1 fails_memory

pub x-returns-in_err-part2 : goal.x-returns-in_err-part2
unfolding grammar model_ways model_deepens
x-returns-in_err-part2 t c = let known = c.in_ok-choose.ensures.known in let e : c.in_ok-choose.field-0 ≡ 0 = omega arith in err_exit _ _ _ c.from_residual-in_err-part2.ensures.1 (fails_open _ 0 c.in_ok-choose.ensures e (fails_next c.in_ok-part1.ensures (fails_here _ c.in_err-part2.ensures)))

pub x-returns : goal.x-returns
unfolding grammar model_ways model_deepens
x-returns t c = let known = c.in_ok-choose.ensures.known in let e : c.in_ok-choose.field-0 ≡ 0 = omega arith in moves_same (x_made1 _ _ _ _ c.in_ok-box1.ensures.ok) (moves_open _ 0 c.in_ok-choose.ensures e (moves_next c.in_ok-part1.ensures c.in_ok-part2.ensures))

pub x1_item-returns-in_err-part1-in-0 : goal.x1_item-returns-in_err-part1-in-0
unfolding grammar model_ways model_deepens
x1_item-returns-in_err-part1-in-0 t c = err_item (λ x. x1_item_steps x c.args.depth) _ _ symbols.X1 (opens symbols.X1 2 ∷ []) _ _ c.from_residual-in_err-part1-in-0.ensures.1 (fails_open _ 0 c.in_ok-way.ensures c.in-0.is (fails_here _ c.in_err-part1-in-0.ensures.read))

pub x1_item-returns-in_err-part2-in-0 : goal.x1_item-returns-in_err-part2-in-0
unfolding grammar model_ways model_deepens
x1_item-returns-in_err-part2-in-0 t c = err_item (λ x. x1_item_steps x c.args.depth) _ _ symbols.X1 (opens symbols.X1 2 ∷ []) _ _ c.from_residual-in_err-part2-in-0.ensures.1 (fails_open _ 0 c.in_ok-way.ensures c.in-0.is (fails_next c.in_ok-part1-in-0.ensures.read (fails_here _ c.in_err-part2-in-0.ensures)))

pub x1_item-returns-in_err-box2-in-0 : goal.x1_item-returns-in_err-box2-in-0
unfolding grammar model_ways model_deepens
x1_item-returns-in_err-box2-in-0 t c = err_item (λ x. x1_item_steps x c.args.depth) _ _ symbols.X1 (opens symbols.X1 2 ∷ []) _ _ c.from_residual-in_err-box2-in-0.ensures.1 fails_memory

pub x1_item-returns-in_ok-box2-in-0 : goal.x1_item-returns-in_ok-box2-in-0
unfolding grammar model_ways model_deepens
x1_item-returns-in_ok-box2-in-0 t c = (loops_same (x1_made1 _ _ _ _ c.in_ok-box2-in-0.ensures.ok) (loops_open _ 0 c.in_ok-way.ensures c.in-0.is (moves_next c.in_ok-part1-in-0.ensures.read c.in_ok-part2-in-0.ensures) refl), omega (arith, c.in_ok-part1-in-0.ensures.ahead, c.in_ok-part2-in-0.ensures.ahead))

pub x1_item-returns-in_err-part1-in-1 : goal.x1_item-returns-in_err-part1-in-1
unfolding grammar model_ways model_deepens
x1_item-returns-in_err-part1-in-1 t c = err_item (λ x. x1_item_steps x c.args.depth) _ _ symbols.X1 (opens symbols.X1 2 ∷ []) _ _ c.from_residual-in_err-part1-in-1.ensures.1 (fails_open _ 1 c.in_ok-way.ensures c.in-1.is (fails_here _ c.in_err-part1-in-1.ensures.read))

pub x1_item-returns-in_err-part2-in-1 : goal.x1_item-returns-in_err-part2-in-1
unfolding grammar model_ways model_deepens
x1_item-returns-in_err-part2-in-1 t c = err_item (λ x. x1_item_steps x c.args.depth) _ _ symbols.X1 (opens symbols.X1 2 ∷ []) _ _ c.from_residual-in_err-part2-in-1.ensures.1 (fails_open _ 1 c.in_ok-way.ensures c.in-1.is (fails_next c.in_ok-part1-in-1.ensures.read (fails_here _ c.in_err-part2-in-1.ensures)))

pub x1_item-returns-in_err-box2-in-1 : goal.x1_item-returns-in_err-box2-in-1
unfolding grammar model_ways model_deepens
x1_item-returns-in_err-box2-in-1 t c = err_item (λ x. x1_item_steps x c.args.depth) _ _ symbols.X1 (opens symbols.X1 2 ∷ []) _ _ c.from_residual-in_err-box2-in-1.ensures.1 fails_memory

pub x1_item-returns-in_ok-box2-in-1 : goal.x1_item-returns-in_ok-box2-in-1
unfolding grammar model_ways model_deepens
x1_item-returns-in_ok-box2-in-1 t c = (loops_same (x1_made2 _ _ _ _ c.in_ok-box2-in-1.ensures.ok) (loops_open _ 1 c.in_ok-way.ensures c.in-1.is (moves_next c.in_ok-part1-in-1.ensures.read c.in_ok-part2-in-1.ensures) refl), omega (arith, c.in_ok-part1-in-1.ensures.ahead, c.in_ok-part2-in-1.ensures.ahead))

pub x1_item-returns-in_default : goal.x1_item-returns-in_default
unfolding grammar model_ways model_deepens
x1_item-returns-in_default t c = let known = c.in_ok-way.ensures.known in let e : c.in_ok-way.way ≡ 2 = omega arith in moves_open _ 2 c.in_ok-way.ensures e (moves_none _ _ c.requires.inside)

pub x1-loop-items-init : goal.x1-loop-items-init
x1-loop-items-init t c = (gathered_none _ _ _ _ _ _ c.new-items.ensures.items c.requires.inside, c.requires.inside, c.requires.shallow)

pub x1-returns-in_err-item : goal.x1-returns-in_err-item
x1-returns-in_err-item t c = err_exit _ _ _ c.from_residual.ensures.1 (gathered_fails c.loop-items.invariant.0 c.in_err-item.ensures)

pub x1-returns-in_err-push : goal.x1-returns-in_err-push
x1-returns-in_err-push t c = err_exit _ _ _ c.from_residual-in_err-push.ensures.1 fails_memory

pub x1-loop-items-preserved : goal.x1-loop-items-preserved
x1-loop-items-preserved t c = let read = rw c.in-Some.is at c.in_ok-item.ensures in let next = read.0.within in let further = read.1 in (gathered_more _ c.loop-items.invariant.0 read.0 c.in_ok-push.ensures.items, next, omega arith)

pub x1-returns : goal.x1-returns
unfolding x1_steps
x1-returns t c = let read = rw c.in_default.is at c.in_ok-item.ensures in gathered_end (opens symbols.X1 2) c.loop-items.invariant.0 read

pub t-returns-in_err-part1 : goal.t-returns-in_err-part1
unfolding grammar model_ways model_deepens
t-returns-in_err-part1 t c = let known = c.in_ok-choose.ensures.known in let e : c.in_ok-choose.field-0 ≡ 0 = omega arith in err_exit _ _ _ c.from_residual-in_err-part1.ensures.1 (fails_open _ 0 c.in_ok-choose.ensures e (fails_here _ c.in_err-part1.ensures))

pub t-returns-in_err-box1 : goal.t-returns-in_err-box1
unfolding grammar model_ways model_deepens
t-returns-in_err-box1 t c = err_exit _ _ _ c.from_residual-in_err-box1.ensures.1 fails_memory

pub t-returns-in_err-part2 : goal.t-returns-in_err-part2
unfolding grammar model_ways model_deepens
t-returns-in_err-part2 t c = let known = c.in_ok-choose.ensures.known in let e : c.in_ok-choose.field-0 ≡ 0 = omega arith in err_exit _ _ _ c.from_residual-in_err-part2.ensures.1 (fails_open _ 0 c.in_ok-choose.ensures e (fails_next c.in_ok-part1.ensures (fails_here _ c.in_err-part2.ensures)))

pub t-returns : goal.t-returns
unfolding grammar model_ways model_deepens
t-returns t c = let known = c.in_ok-choose.ensures.known in let e : c.in_ok-choose.field-0 ≡ 0 = omega arith in moves_same (t_made1 _ _ _ _ c.in_ok-box1.ensures.ok) (moves_open _ 0 c.in_ok-choose.ensures e (moves_next c.in_ok-part1.ensures c.in_ok-part2.ensures))

pub t1_item-returns-in_err-part1-in-0 : goal.t1_item-returns-in_err-part1-in-0
unfolding grammar model_ways model_deepens
t1_item-returns-in_err-part1-in-0 t c = err_item (λ x. t1_item_steps x c.args.depth) _ _ symbols.T1 (opens symbols.T1 2 ∷ []) _ _ c.from_residual-in_err-part1-in-0.ensures.1 (fails_open _ 0 c.in_ok-way.ensures c.in-0.is (fails_here _ c.in_err-part1-in-0.ensures.read))

pub t1_item-returns-in_err-part2-in-0 : goal.t1_item-returns-in_err-part2-in-0
unfolding grammar model_ways model_deepens
t1_item-returns-in_err-part2-in-0 t c = err_item (λ x. t1_item_steps x c.args.depth) _ _ symbols.T1 (opens symbols.T1 2 ∷ []) _ _ c.from_residual-in_err-part2-in-0.ensures.1 (fails_open _ 0 c.in_ok-way.ensures c.in-0.is (fails_next c.in_ok-part1-in-0.ensures.read (fails_here _ c.in_err-part2-in-0.ensures)))

pub t1_item-returns-in_err-box2-in-0 : goal.t1_item-returns-in_err-box2-in-0
unfolding grammar model_ways model_deepens
t1_item-returns-in_err-box2-in-0 t c = err_item (λ x. t1_item_steps x c.args.depth) _ _ symbols.T1 (opens symbols.T1 2 ∷ []) _ _ c.from_residual-in_err-box2-in-0.ensures.1 fails_memory

pub t1_item-returns-in_ok-box2-in-0 : goal.t1_item-returns-in_ok-box2-in-0
unfolding grammar model_ways model_deepens
t1_item-returns-in_ok-box2-in-0 t c = (loops_same (t1_made1 _ _ _ _ c.in_ok-box2-in-0.ensures.ok) (loops_open _ 0 c.in_ok-way.ensures c.in-0.is (moves_next c.in_ok-part1-in-0.ensures.read c.in_ok-part2-in-0.ensures) refl), omega (arith, c.in_ok-part1-in-0.ensures.ahead, c.in_ok-part2-in-0.ensures.ahead))

pub t1_item-returns-in_err-part1-in-1 : goal.t1_item-returns-in_err-part1-in-1
unfolding grammar model_ways model_deepens
t1_item-returns-in_err-part1-in-1 t c = err_item (λ x. t1_item_steps x c.args.depth) _ _ symbols.T1 (opens symbols.T1 2 ∷ []) _ _ c.from_residual-in_err-part1-in-1.ensures.1 (fails_open _ 1 c.in_ok-way.ensures c.in-1.is (fails_here _ c.in_err-part1-in-1.ensures.read))

pub t1_item-returns-in_err-part2-in-1 : goal.t1_item-returns-in_err-part2-in-1
unfolding grammar model_ways model_deepens
t1_item-returns-in_err-part2-in-1 t c = err_item (λ x. t1_item_steps x c.args.depth) _ _ symbols.T1 (opens symbols.T1 2 ∷ []) _ _ c.from_residual-in_err-part2-in-1.ensures.1 (fails_open _ 1 c.in_ok-way.ensures c.in-1.is (fails_next c.in_ok-part1-in-1.ensures.read (fails_here _ c.in_err-part2-in-1.ensures)))

pub t1_item-returns-in_err-box2-in-1 : goal.t1_item-returns-in_err-box2-in-1
unfolding grammar model_ways model_deepens
t1_item-returns-in_err-box2-in-1 t c = err_item (λ x. t1_item_steps x c.args.depth) _ _ symbols.T1 (opens symbols.T1 2 ∷ []) _ _ c.from_residual-in_err-box2-in-1.ensures.1 fails_memory

pub t1_item-returns-in_ok-box2-in-1 : goal.t1_item-returns-in_ok-box2-in-1
unfolding grammar model_ways model_deepens
t1_item-returns-in_ok-box2-in-1 t c = (loops_same (t1_made2 _ _ _ _ c.in_ok-box2-in-1.ensures.ok) (loops_open _ 1 c.in_ok-way.ensures c.in-1.is (moves_next c.in_ok-part1-in-1.ensures.read c.in_ok-part2-in-1.ensures) refl), omega (arith, c.in_ok-part1-in-1.ensures.ahead, c.in_ok-part2-in-1.ensures.ahead))

pub t1_item-returns-in_default : goal.t1_item-returns-in_default
unfolding grammar model_ways model_deepens
t1_item-returns-in_default t c = let known = c.in_ok-way.ensures.known in let e : c.in_ok-way.way ≡ 2 = omega arith in moves_open _ 2 c.in_ok-way.ensures e (moves_none _ _ c.requires.inside)

pub t1-loop-items-init : goal.t1-loop-items-init
t1-loop-items-init t c = (gathered_none _ _ _ _ _ _ c.new-items.ensures.items c.requires.inside, c.requires.inside, c.requires.shallow)

pub t1-returns-in_err-item : goal.t1-returns-in_err-item
t1-returns-in_err-item t c = err_exit _ _ _ c.from_residual.ensures.1 (gathered_fails c.loop-items.invariant.0 c.in_err-item.ensures)

pub t1-returns-in_err-push : goal.t1-returns-in_err-push
t1-returns-in_err-push t c = err_exit _ _ _ c.from_residual-in_err-push.ensures.1 fails_memory

pub t1-loop-items-preserved : goal.t1-loop-items-preserved
t1-loop-items-preserved t c = let read = rw c.in-Some.is at c.in_ok-item.ensures in let next = read.0.within in let further = read.1 in (gathered_more _ c.loop-items.invariant.0 read.0 c.in_ok-push.ensures.items, next, omega arith)

pub t1-returns : goal.t1-returns
unfolding t1_steps
t1-returns t c = let read = rw c.in_default.is at c.in_ok-item.ensures in gathered_end (opens symbols.T1 2) c.loop-items.invariant.0 read

pub u-returns-in_err-part1-in-0 : goal.u-returns-in_err-part1-in-0
unfolding grammar model_ways model_deepens
u-returns-in_err-part1-in-0 t c = err_exit _ _ _ c.from_residual-in_err-part1-in-0.ensures.1 (fails_open _ 0 c.in_ok-way.ensures c.in-0.is (fails_here _ c.in_err-part1-in-0.ensures))

pub u-returns-in_ok-part1-in-0 : goal.u-returns-in_ok-part1-in-0
unfolding grammar model_ways model_deepens
u-returns-in_ok-part1-in-0 t c = moves_same (u_made1 _ _) (moves_open _ 0 c.in_ok-way.ensures c.in-0.is c.in_ok-part1-in-0.ensures)

pub u-returns-in_err-part1-in-1 : goal.u-returns-in_err-part1-in-1
unfolding grammar model_ways model_deepens
u-returns-in_err-part1-in-1 t c = err_exit _ _ _ c.from_residual-in_err-part1-in-1.ensures.1 (fails_open _ 1 c.in_ok-way.ensures c.in-1.is (fails_here _ c.in_err-part1-in-1.ensures.read))

pub u-returns-in_ok-part1-in-1 : goal.u-returns-in_ok-part1-in-1
unfolding grammar model_ways model_deepens
u-returns-in_ok-part1-in-1 t c = moves_same (u_made2 _ _) (moves_open _ 1 c.in_ok-way.ensures c.in-1.is c.in_ok-part1-in-1.ensures.read)

pub u-returns-in_err-part1-in-2 : goal.u-returns-in_err-part1-in-2
unfolding grammar model_ways model_deepens
u-returns-in_err-part1-in-2 t c = err_exit _ _ _ c.from_residual-in_err-part1-in-2.ensures.1 (fails_open _ 2 c.in_ok-way.ensures c.in-2.is (fails_here _ c.in_err-part1-in-2.ensures.read))

pub u-returns-in_ok-part1-in-2 : goal.u-returns-in_ok-part1-in-2
unfolding grammar model_ways model_deepens
u-returns-in_ok-part1-in-2 t c = moves_same (u_made3 _ _) (moves_open _ 2 c.in_ok-way.ensures c.in-2.is c.in_ok-part1-in-2.ensures.read)

pub u-returns-in_err-part1-in-3 : goal.u-returns-in_err-part1-in-3
unfolding grammar model_ways model_deepens
u-returns-in_err-part1-in-3 t c = err_exit _ _ _ c.from_residual-in_err-part1-in-3.ensures.1 (fails_open _ 3 c.in_ok-way.ensures c.in-3.is (fails_here _ c.in_err-part1-in-3.ensures.read))

pub u-returns-in_err-part2-in-3 : goal.u-returns-in_err-part2-in-3
unfolding grammar model_ways model_deepens
u-returns-in_err-part2-in-3 t c = err_exit _ _ _ c.from_residual-in_err-part2-in-3.ensures.1 (fails_open _ 3 c.in_ok-way.ensures c.in-3.is (fails_next c.in_ok-part1-in-3.ensures.read (fails_here _ c.in_err-part2-in-3.ensures)))

pub u-returns-in_err-box2-in-3 : goal.u-returns-in_err-box2-in-3
unfolding grammar model_ways model_deepens
u-returns-in_err-box2-in-3 t c = err_exit _ _ _ c.from_residual-in_err-box2-in-3.ensures.1 fails_memory

pub u-returns-in_ok-box2-in-3 : goal.u-returns-in_ok-box2-in-3
unfolding grammar model_ways model_deepens
u-returns-in_ok-box2-in-3 t c = moves_same (u_made4 _ _ _ _ c.in_ok-box2-in-3.ensures.ok) (moves_open _ 3 c.in_ok-way.ensures c.in-3.is (moves_next c.in_ok-part1-in-3.ensures.read c.in_ok-part2-in-3.ensures))

pub u-returns-in_err-part1-in_default : goal.u-returns-in_err-part1-in_default
unfolding grammar model_ways model_deepens
u-returns-in_err-part1-in_default t c = let known = c.in_ok-way.ensures.known in let e : c.in_ok-way.way ≡ 4 = omega arith in err_exit _ _ _ c.from_residual-in_err-part1-in_default.ensures.1 (fails_open _ 4 c.in_ok-way.ensures e (fails_here _ c.in_err-part1-in_default.ensures.read))

pub u-returns-in_err-part2-in_default : goal.u-returns-in_err-part2-in_default
unfolding grammar model_ways model_deepens
u-returns-in_err-part2-in_default t c = let known = c.in_ok-way.ensures.known in let e : c.in_ok-way.way ≡ 4 = omega arith in err_exit _ _ _ c.from_residual-in_err-part2-in_default.ensures.1 (fails_open _ 4 c.in_ok-way.ensures e (fails_next c.in_ok-part1-in_default.ensures.read (fails_here _ c.in_err-part2-in_default.ensures)))

pub u-returns-in_err-box2-in_default : goal.u-returns-in_err-box2-in_default
unfolding grammar model_ways model_deepens
u-returns-in_err-box2-in_default t c = err_exit _ _ _ c.from_residual-in_err-box2-in_default.ensures.1 fails_memory

pub u-returns-in_err-part3-in_default : goal.u-returns-in_err-part3-in_default
unfolding grammar model_ways model_deepens
u-returns-in_err-part3-in_default t c = let known = c.in_ok-way.ensures.known in let e : c.in_ok-way.way ≡ 4 = omega arith in err_exit _ _ _ c.from_residual-in_err-part3-in_default.ensures.1 (fails_open _ 4 c.in_ok-way.ensures e (fails_next c.in_ok-part1-in_default.ensures.read (fails_next c.in_ok-part2-in_default.ensures (fails_here _ c.in_err-part3-in_default.ensures.read))))

pub u-returns-in_ok-part3-in_default : goal.u-returns-in_ok-part3-in_default
unfolding grammar model_ways model_deepens
u-returns-in_ok-part3-in_default t c = let known = c.in_ok-way.ensures.known in let e : c.in_ok-way.way ≡ 4 = omega arith in moves_same (u_made5 _ _ _ _ _ c.in_ok-box2-in_default.ensures.ok) (moves_open _ 4 c.in_ok-way.ensures e (moves_next c.in_ok-part1-in_default.ensures.read (moves_next c.in_ok-part2-in_default.ensures c.in_ok-part3-in_default.ensures.read)))
