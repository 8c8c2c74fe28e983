-- Written by tools/grammar.py.
use Rattle.std.proofs.Common.{[], ◌∷◌, ◌≡◌, refl, arith}
use Rattle.bg_syntax.specs.Grammar.{model_ways, model_deepens, grammar}
use Rattle.bg_syntax.specs.Steps.{opens}
use Rattle.bg_syntax.specs.Reading.{fails_memory}
use Rattle.bg_syntax.proofs.Readings.{moves_none, moves_next, moves_open, moves_same, loops_same, loops_open, fails_here, fails_next, fails_open, err_exit, err_item, gathered_none, gathered_more, gathered_end, gathered_fails}
use Rattle.bg_syntax.specs.ExpressionsSteps.{e1_item_steps, e1_steps, p1_item_steps, p1_steps, m1_item_steps, m1_steps, c1_item_steps, c1_steps}
use Rattle.bg_syntax.proofs.ExpressionsTrees.{e_made1, e1_made1, p_made1, p1_made1, m_made1, m1_made1, c_made1, c1_made1, k_made1, k_made2, n_made1, n1_made1, n1_made2, a_made1, a_made2, a_made3, a_made4, a_made5, a_made6, a_made7, a_made8}
use Rattle.bg_syntax.specs.declared.symbol.Symbol.TheVariants as symbols
use Rattle.bg_syntax.proofs.reader.Reader.+expressions.Goals as goal

pub e-returns-in_err-part1 : goal.e-returns-in_err-part1
unfolding grammar model_ways model_deepens
e-returns-in_err-part1 t c = let known = c.in_ok-choose.ensures.known in let e : c.in_ok-choose.field-0 ≡ 0 = omega arith in err_exit _ _ _ c.from_residual-in_err-part1.ensures.1 (fails_open _ 0 c.in_ok-choose.ensures e (fails_here _ c.in_err-part1.ensures))

pub e-returns-in_err-box1 : goal.e-returns-in_err-box1
unfolding grammar model_ways model_deepens
e-returns-in_err-box1 t c = err_exit _ _ _ c.from_residual-in_err-box1.ensures.1 fails_memory

pub e-returns-in_err-part2 : goal.e-returns-in_err-part2
unfolding grammar model_ways model_deepens
e-returns-in_err-part2 t c = let known = c.in_ok-choose.ensures.known in let e : c.in_ok-choose.field-0 ≡ 0 = omega arith in err_exit _ _ _ c.from_residual-in_err-part2.ensures.1 (fails_open _ 0 c.in_ok-choose.ensures e (fails_next c.in_ok-part1.ensures (fails_here _ c.in_err-part2.ensures)))

pub e-returns : goal.e-returns
unfolding grammar model_ways model_deepens
e-returns t c = let known = c.in_ok-choose.ensures.known in let e : c.in_ok-choose.field-0 ≡ 0 = omega arith in moves_same (e_made1 _ _ _ _ c.in_ok-box1.ensures.ok) (moves_open _ 0 c.in_ok-choose.ensures e (moves_next c.in_ok-part1.ensures c.in_ok-part2.ensures))

pub e1_item-returns-in_err-part1-in-0 : goal.e1_item-returns-in_err-part1-in-0
unfolding grammar model_ways model_deepens
e1_item-returns-in_err-part1-in-0 t c = err_item (λ x. e1_item_steps x c.args.depth) _ _ symbols.E1 (opens symbols.E1 1 ∷ []) _ _ c.from_residual-in_err-part1-in-0.ensures.1 (fails_open _ 0 c.in_ok-way.ensures c.in-0.is (fails_here _ c.in_err-part1-in-0.ensures.read))

pub e1_item-returns-in_err-part2-in-0 : goal.e1_item-returns-in_err-part2-in-0
unfolding grammar model_ways model_deepens
e1_item-returns-in_err-part2-in-0 t c = err_item (λ x. e1_item_steps x c.args.depth) _ _ symbols.E1 (opens symbols.E1 1 ∷ []) _ _ c.from_residual-in_err-part2-in-0.ensures.1 (fails_open _ 0 c.in_ok-way.ensures c.in-0.is (fails_next c.in_ok-part1-in-0.ensures.read (fails_here _ c.in_err-part2-in-0.ensures)))

pub e1_item-returns-in_err-box2-in-0 : goal.e1_item-returns-in_err-box2-in-0
unfolding grammar model_ways model_deepens
e1_item-returns-in_err-box2-in-0 t c = err_item (λ x. e1_item_steps x c.args.depth) _ _ symbols.E1 (opens symbols.E1 1 ∷ []) _ _ c.from_residual-in_err-box2-in-0.ensures.1 fails_memory

pub e1_item-returns-in_ok-box2-in-0 : goal.e1_item-returns-in_ok-box2-in-0
unfolding grammar model_ways model_deepens
e1_item-returns-in_ok-box2-in-0 t c = (loops_same (e1_made1 _ _ _ _ c.in_ok-box2-in-0.ensures.ok) (loops_open _ 0 c.in_ok-way.ensures c.in-0.is (moves_next c.in_ok-part1-in-0.ensures.read c.in_ok-part2-in-0.ensures) refl), omega (arith, c.in_ok-part1-in-0.ensures.ahead, c.in_ok-part2-in-0.ensures.ahead))

pub e1_item-returns-in_default : goal.e1_item-returns-in_default
unfolding grammar model_ways model_deepens
e1_item-returns-in_default t c = let known = c.in_ok-way.ensures.known in let e : c.in_ok-way.way ≡ 1 = omega arith in moves_open _ 1 c.in_ok-way.ensures e (moves_none _ _ c.requires.inside)

pub e1-loop-items-init : goal.e1-loop-items-init
e1-loop-items-init t c = (gathered_none _ _ _ _ _ _ c.new-items.ensures.items c.requires.inside, c.requires.inside, c.requires.shallow)

pub e1-returns-in_err-item : goal.e1-returns-in_err-item
e1-returns-in_err-item t c = err_exit _ _ _ c.from_residual.ensures.1 (gathered_fails c.loop-items.invariant.0 c.in_err-item.ensures)

pub e1-returns-in_err-push : goal.e1-returns-in_err-push
e1-returns-in_err-push t c = err_exit _ _ _ c.from_residual-in_err-push.ensures.1 fails_memory

pub e1-loop-items-preserved : goal.e1-loop-items-preserved
e1-loop-items-preserved t c = let read = rw c.in-Some.is at c.in_ok-item.ensures in let next = read.0.within in let further = read.1 in (gathered_more _ c.loop-items.invariant.0 read.0 c.in_ok-push.ensures.items, next, omega arith)

pub e1-returns : goal.e1-returns
unfolding e1_steps
e1-returns t c = let read = rw c.in_default.is at c.in_ok-item.ensures in gathered_end (opens symbols.E1 1) c.loop-items.invariant.0 read

pub p-returns-in_err-part1 : goal.p-returns-in_err-part1
unfolding grammar model_ways model_deepens
p-returns-in_err-part1 t c = let known = c.in_ok-choose.ensures.known in let e : c.in_ok-choose.field-0 ≡ 0 = omega arith in err_exit _ _ _ c.from_residual-in_err-part1.ensures.1 (fails_open _ 0 c.in_ok-choose.ensures e (fails_here _ c.in_err-part1.ensures))

pub p-returns-in_err-box1 : goal.p-returns-in_err-box1
unfolding grammar model_ways model_deepens
p-returns-in_err-box1 t c = err_exit _ _ _ c.from_residual-in_err-box1.ensures.1 fails_memory

pub p-returns-in_err-part2 : goal.p-returns-in_err-part2
unfolding grammar model_ways model_deepens
p-returns-in_err-part2 t c = let known = c.in_ok-choose.ensures.known in let e : c.in_ok-choose.field-0 ≡ 0 = omega arith in err_exit _ _ _ c.from_residual-in_err-part2.ensures.1 (fails_open _ 0 c.in_ok-choose.ensures e (fails_next c.in_ok-part1.ensures (fails_here _ c.in_err-part2.ensures)))

pub p-returns : goal.p-returns
unfolding grammar model_ways model_deepens
p-returns t c = let known = c.in_ok-choose.ensures.known in let e : c.in_ok-choose.field-0 ≡ 0 = omega arith in moves_same (p_made1 _ _ _ _ c.in_ok-box1.ensures.ok) (moves_open _ 0 c.in_ok-choose.ensures e (moves_next c.in_ok-part1.ensures c.in_ok-part2.ensures))

pub p1_item-returns-in_err-part1-in-0 : goal.p1_item-returns-in_err-part1-in-0
unfolding grammar model_ways model_deepens
p1_item-returns-in_err-part1-in-0 t c = err_item (λ x. p1_item_steps x c.args.depth) _ _ symbols.P1 (opens symbols.P1 1 ∷ []) _ _ c.from_residual-in_err-part1-in-0.ensures.1 (fails_open _ 0 c.in_ok-way.ensures c.in-0.is (fails_here _ c.in_err-part1-in-0.ensures.read))

pub p1_item-returns-in_err-part2-in-0 : goal.p1_item-returns-in_err-part2-in-0
unfolding grammar model_ways model_deepens
p1_item-returns-in_err-part2-in-0 t c = err_item (λ x. p1_item_steps x c.args.depth) _ _ symbols.P1 (opens symbols.P1 1 ∷ []) _ _ c.from_residual-in_err-part2-in-0.ensures.1 (fails_open _ 0 c.in_ok-way.ensures c.in-0.is (fails_next c.in_ok-part1-in-0.ensures.read (fails_here _ c.in_err-part2-in-0.ensures)))

pub p1_item-returns-in_err-box2-in-0 : goal.p1_item-returns-in_err-box2-in-0
unfolding grammar model_ways model_deepens
p1_item-returns-in_err-box2-in-0 t c = err_item (λ x. p1_item_steps x c.args.depth) _ _ symbols.P1 (opens symbols.P1 1 ∷ []) _ _ c.from_residual-in_err-box2-in-0.ensures.1 fails_memory

pub p1_item-returns-in_ok-box2-in-0 : goal.p1_item-returns-in_ok-box2-in-0
unfolding grammar model_ways model_deepens
p1_item-returns-in_ok-box2-in-0 t c = (loops_same (p1_made1 _ _ _ _ c.in_ok-box2-in-0.ensures.ok) (loops_open _ 0 c.in_ok-way.ensures c.in-0.is (moves_next c.in_ok-part1-in-0.ensures.read c.in_ok-part2-in-0.ensures) refl), omega (arith, c.in_ok-part1-in-0.ensures.ahead, c.in_ok-part2-in-0.ensures.ahead))

pub p1_item-returns-in_default : goal.p1_item-returns-in_default
unfolding grammar model_ways model_deepens
p1_item-returns-in_default t c = let known = c.in_ok-way.ensures.known in let e : c.in_ok-way.way ≡ 1 = omega arith in moves_open _ 1 c.in_ok-way.ensures e (moves_none _ _ c.requires.inside)

pub p1-loop-items-init : goal.p1-loop-items-init
p1-loop-items-init t c = (gathered_none _ _ _ _ _ _ c.new-items.ensures.items c.requires.inside, c.requires.inside, c.requires.shallow)

pub p1-returns-in_err-item : goal.p1-returns-in_err-item
p1-returns-in_err-item t c = err_exit _ _ _ c.from_residual.ensures.1 (gathered_fails c.loop-items.invariant.0 c.in_err-item.ensures)

pub p1-returns-in_err-push : goal.p1-returns-in_err-push
p1-returns-in_err-push t c = err_exit _ _ _ c.from_residual-in_err-push.ensures.1 fails_memory

pub p1-loop-items-preserved : goal.p1-loop-items-preserved
p1-loop-items-preserved t c = let read = rw c.in-Some.is at c.in_ok-item.ensures in let next = read.0.within in let further = read.1 in (gathered_more _ c.loop-items.invariant.0 read.0 c.in_ok-push.ensures.items, next, omega arith)

pub p1-returns : goal.p1-returns
unfolding p1_steps
p1-returns t c = let read = rw c.in_default.is at c.in_ok-item.ensures in gathered_end (opens symbols.P1 1) c.loop-items.invariant.0 read

pub m-returns-in_err-part1 : goal.m-returns-in_err-part1
unfolding grammar model_ways model_deepens
m-returns-in_err-part1 t c = let known = c.in_ok-choose.ensures.known in let e : c.in_ok-choose.field-0 ≡ 0 = omega arith in err_exit _ _ _ c.from_residual-in_err-part1.ensures.1 (fails_open _ 0 c.in_ok-choose.ensures e (fails_here _ c.in_err-part1.ensures))

pub m-returns-in_err-box1 : goal.m-returns-in_err-box1
unfolding grammar model_ways model_deepens
m-returns-in_err-box1 t c = err_exit _ _ _ c.from_residual-in_err-box1.ensures.1 fails_memory

pub m-returns-in_err-part2 : goal.m-returns-in_err-part2
unfolding grammar model_ways model_deepens
m-returns-in_err-part2 t c = let known = c.in_ok-choose.ensures.known in let e : c.in_ok-choose.field-0 ≡ 0 = omega arith in err_exit _ _ _ c.from_residual-in_err-part2.ensures.1 (fails_open _ 0 c.in_ok-choose.ensures e (fails_next c.in_ok-part1.ensures (fails_here _ c.in_err-part2.ensures)))

pub m-returns : goal.m-returns
unfolding grammar model_ways model_deepens
m-returns t c = let known = c.in_ok-choose.ensures.known in let e : c.in_ok-choose.field-0 ≡ 0 = omega arith in moves_same (m_made1 _ _ _ _ c.in_ok-box1.ensures.ok) (moves_open _ 0 c.in_ok-choose.ensures e (moves_next c.in_ok-part1.ensures c.in_ok-part2.ensures))

pub m1_item-returns-in_err-part1-in-0 : goal.m1_item-returns-in_err-part1-in-0
unfolding grammar model_ways model_deepens
m1_item-returns-in_err-part1-in-0 t c = err_item (λ x. m1_item_steps x c.args.depth) _ _ symbols.M1 (opens symbols.M1 1 ∷ []) _ _ c.from_residual-in_err-part1-in-0.ensures.1 (fails_open _ 0 c.in_ok-way.ensures c.in-0.is (fails_here _ c.in_err-part1-in-0.ensures.read))

pub m1_item-returns-in_err-part2-in-0 : goal.m1_item-returns-in_err-part2-in-0
unfolding grammar model_ways model_deepens
m1_item-returns-in_err-part2-in-0 t c = err_item (λ x. m1_item_steps x c.args.depth) _ _ symbols.M1 (opens symbols.M1 1 ∷ []) _ _ c.from_residual-in_err-part2-in-0.ensures.1 (fails_open _ 0 c.in_ok-way.ensures c.in-0.is (fails_next c.in_ok-part1-in-0.ensures.read (fails_here _ c.in_err-part2-in-0.ensures)))

pub m1_item-returns-in_err-box2-in-0 : goal.m1_item-returns-in_err-box2-in-0
unfolding grammar model_ways model_deepens
m1_item-returns-in_err-box2-in-0 t c = err_item (λ x. m1_item_steps x c.args.depth) _ _ symbols.M1 (opens symbols.M1 1 ∷ []) _ _ c.from_residual-in_err-box2-in-0.ensures.1 fails_memory

pub m1_item-returns-in_ok-box2-in-0 : goal.m1_item-returns-in_ok-box2-in-0
unfolding grammar model_ways model_deepens
m1_item-returns-in_ok-box2-in-0 t c = (loops_same (m1_made1 _ _ _ _ c.in_ok-box2-in-0.ensures.ok) (loops_open _ 0 c.in_ok-way.ensures c.in-0.is (moves_next c.in_ok-part1-in-0.ensures.read c.in_ok-part2-in-0.ensures) refl), omega (arith, c.in_ok-part1-in-0.ensures.ahead, c.in_ok-part2-in-0.ensures.ahead))

pub m1_item-returns-in_default : goal.m1_item-returns-in_default
unfolding grammar model_ways model_deepens
m1_item-returns-in_default t c = let known = c.in_ok-way.ensures.known in let e : c.in_ok-way.way ≡ 1 = omega arith in moves_open _ 1 c.in_ok-way.ensures e (moves_none _ _ c.requires.inside)

pub m1-loop-items-init : goal.m1-loop-items-init
m1-loop-items-init t c = (gathered_none _ _ _ _ _ _ c.new-items.ensures.items c.requires.inside, c.requires.inside, c.requires.shallow)

pub m1-returns-in_err-item : goal.m1-returns-in_err-item
m1-returns-in_err-item t c = err_exit _ _ _ c.from_residual.ensures.1 (gathered_fails c.loop-items.invariant.0 c.in_err-item.ensures)

pub m1-returns-in_err-push : goal.m1-returns-in_err-push
m1-returns-in_err-push t c = err_exit _ _ _ c.from_residual-in_err-push.ensures.1 fails_memory

pub m1-loop-items-preserved : goal.m1-loop-items-preserved
m1-loop-items-preserved t c = let read = rw c.in-Some.is at c.in_ok-item.ensures in let next = read.0.within in let further = read.1 in (gathered_more _ c.loop-items.invariant.0 read.0 c.in_ok-push.ensures.items, next, omega arith)

pub m1-returns : goal.m1-returns
unfolding m1_steps
m1-returns t c = let read = rw c.in_default.is at c.in_ok-item.ensures in gathered_end (opens symbols.M1 1) c.loop-items.invariant.0 read

pub c-returns-in_err-part1 : goal.c-returns-in_err-part1
unfolding grammar model_ways model_deepens
c-returns-in_err-part1 t c = let known = c.in_ok-choose.ensures.known in let e : c.in_ok-choose.field-0 ≡ 0 = omega arith in err_exit _ _ _ c.from_residual-in_err-part1.ensures.1 (fails_open _ 0 c.in_ok-choose.ensures e (fails_here _ c.in_err-part1.ensures))

pub c-returns-in_err-box1 : goal.c-returns-in_err-box1
unfolding grammar model_ways model_deepens
c-returns-in_err-box1 t c = err_exit _ _ _ c.from_residual-in_err-box1.ensures.1 fails_memory

pub c-returns-in_err-part2 : goal.c-returns-in_err-part2
unfolding grammar model_ways model_deepens
c-returns-in_err-part2 t c = let known = c.in_ok-choose.ensures.known in let e : c.in_ok-choose.field-0 ≡ 0 = omega arith in err_exit _ _ _ c.from_residual-in_err-part2.ensures.1 (fails_open _ 0 c.in_ok-choose.ensures e (fails_next c.in_ok-part1.ensures (fails_here _ c.in_err-part2.ensures)))

pub c-returns : goal.c-returns
unfolding grammar model_ways model_deepens
c-returns t c = let known = c.in_ok-choose.ensures.known in let e : c.in_ok-choose.field-0 ≡ 0 = omega arith in moves_same (c_made1 _ _ _ _ c.in_ok-box1.ensures.ok) (moves_open _ 0 c.in_ok-choose.ensures e (moves_next c.in_ok-part1.ensures c.in_ok-part2.ensures))

pub c1_item-returns-in_err-part1-in-0 : goal.c1_item-returns-in_err-part1-in-0
unfolding grammar model_ways model_deepens
c1_item-returns-in_err-part1-in-0 t c = err_item (λ x. c1_item_steps x c.args.depth) _ _ symbols.C1 (opens symbols.C1 1 ∷ []) _ _ c.from_residual-in_err-part1-in-0.ensures.1 (fails_open _ 0 c.in_ok-way.ensures c.in-0.is (fails_here _ c.in_err-part1-in-0.ensures.read))

pub c1_item-returns-in_err-part2-in-0 : goal.c1_item-returns-in_err-part2-in-0
unfolding grammar model_ways model_deepens
c1_item-returns-in_err-part2-in-0 t c = err_item (λ x. c1_item_steps x c.args.depth) _ _ symbols.C1 (opens symbols.C1 1 ∷ []) _ _ c.from_residual-in_err-part2-in-0.ensures.1 (fails_open _ 0 c.in_ok-way.ensures c.in-0.is (fails_next c.in_ok-part1-in-0.ensures.read (fails_here _ c.in_err-part2-in-0.ensures)))

pub c1_item-returns-in_err-box2-in-0 : goal.c1_item-returns-in_err-box2-in-0
unfolding grammar model_ways model_deepens
c1_item-returns-in_err-box2-in-0 t c = err_item (λ x. c1_item_steps x c.args.depth) _ _ symbols.C1 (opens symbols.C1 1 ∷ []) _ _ c.from_residual-in_err-box2-in-0.ensures.1 fails_memory

pub c1_item-returns-in_ok-box2-in-0 : goal.c1_item-returns-in_ok-box2-in-0
unfolding grammar model_ways model_deepens
c1_item-returns-in_ok-box2-in-0 t c = (loops_same (c1_made1 _ _ _ _ c.in_ok-box2-in-0.ensures.ok) (loops_open _ 0 c.in_ok-way.ensures c.in-0.is (moves_next c.in_ok-part1-in-0.ensures.read c.in_ok-part2-in-0.ensures) refl), omega (arith, c.in_ok-part1-in-0.ensures.ahead, c.in_ok-part2-in-0.ensures.ahead))

pub c1_item-returns-in_default : goal.c1_item-returns-in_default
unfolding grammar model_ways model_deepens
c1_item-returns-in_default t c = let known = c.in_ok-way.ensures.known in let e : c.in_ok-way.way ≡ 1 = omega arith in moves_open _ 1 c.in_ok-way.ensures e (moves_none _ _ c.requires.inside)

pub c1-loop-items-init : goal.c1-loop-items-init
c1-loop-items-init t c = (gathered_none _ _ _ _ _ _ c.new-items.ensures.items c.requires.inside, c.requires.inside, c.requires.shallow)

pub c1-returns-in_err-item : goal.c1-returns-in_err-item
c1-returns-in_err-item t c = err_exit _ _ _ c.from_residual.ensures.1 (gathered_fails c.loop-items.invariant.0 c.in_err-item.ensures)

pub c1-returns-in_err-push : goal.c1-returns-in_err-push
c1-returns-in_err-push t c = err_exit _ _ _ c.from_residual-in_err-push.ensures.1 fails_memory

pub c1-loop-items-preserved : goal.c1-loop-items-preserved
c1-loop-items-preserved t c = let read = rw c.in-Some.is at c.in_ok-item.ensures in let next = read.0.within in let further = read.1 in (gathered_more _ c.loop-items.invariant.0 read.0 c.in_ok-push.ensures.items, next, omega arith)

pub c1-returns : goal.c1-returns
unfolding c1_steps
c1-returns t c = let read = rw c.in_default.is at c.in_ok-item.ensures in gathered_end (opens symbols.C1 1) c.loop-items.invariant.0 read

pub k-returns-in_err-part1-in-0 : goal.k-returns-in_err-part1-in-0
unfolding grammar model_ways model_deepens
k-returns-in_err-part1-in-0 t c = err_exit _ _ _ c.from_residual-in_err-part1-in-0.ensures.1 (fails_open _ 0 c.in_ok-way.ensures c.in-0.is (fails_here _ c.in_err-part1-in-0.ensures.read))

pub k-returns-in_err-part2-in-0 : goal.k-returns-in_err-part2-in-0
unfolding grammar model_ways model_deepens
k-returns-in_err-part2-in-0 t c = err_exit _ _ _ c.from_residual-in_err-part2-in-0.ensures.1 (fails_open _ 0 c.in_ok-way.ensures c.in-0.is (fails_next c.in_ok-part1-in-0.ensures.read (fails_here _ c.in_err-part2-in-0.ensures.read)))

pub k-returns-in_err-part3-in-0 : goal.k-returns-in_err-part3-in-0
unfolding grammar model_ways model_deepens
k-returns-in_err-part3-in-0 t c = err_exit _ _ _ c.from_residual-in_err-part3-in-0.ensures.1 (fails_open _ 0 c.in_ok-way.ensures c.in-0.is (fails_next c.in_ok-part1-in-0.ensures.read (fails_next c.in_ok-part2-in-0.ensures.read (fails_here _ c.in_err-part3-in-0.ensures))))

pub k-returns-in_err-box3-in-0 : goal.k-returns-in_err-box3-in-0
unfolding grammar model_ways model_deepens
k-returns-in_err-box3-in-0 t c = err_exit _ _ _ c.from_residual-in_err-box3-in-0.ensures.1 fails_memory

pub k-returns-in_ok-box3-in-0 : goal.k-returns-in_ok-box3-in-0
unfolding grammar model_ways model_deepens
k-returns-in_ok-box3-in-0 t c = moves_same (k_made1 _ _ _ _ _ c.in_ok-box3-in-0.ensures.ok) (moves_open _ 0 c.in_ok-way.ensures c.in-0.is (moves_next c.in_ok-part1-in-0.ensures.read (moves_next c.in_ok-part2-in-0.ensures.read c.in_ok-part3-in-0.ensures)))

pub k-returns-in_err-part1-in_default : goal.k-returns-in_err-part1-in_default
unfolding grammar model_ways model_deepens
k-returns-in_err-part1-in_default t c = let known = c.in_ok-way.ensures.known in let e : c.in_ok-way.way ≡ 1 = omega arith in err_exit _ _ _ c.from_residual-in_err-part1-in_default.ensures.1 (fails_open _ 1 c.in_ok-way.ensures e (fails_here _ c.in_err-part1-in_default.ensures))

pub k-returns-in_err-box1-in_default : goal.k-returns-in_err-box1-in_default
unfolding grammar model_ways model_deepens
k-returns-in_err-box1-in_default t c = err_exit _ _ _ c.from_residual-in_err-box1-in_default.ensures.1 fails_memory

pub k-returns-in_ok-box1-in_default : goal.k-returns-in_ok-box1-in_default
unfolding grammar model_ways model_deepens
k-returns-in_ok-box1-in_default t c = let known = c.in_ok-way.ensures.known in let e : c.in_ok-way.way ≡ 1 = omega arith in moves_same (k_made2 _ _ _ c.in_ok-box1-in_default.ensures.ok) (moves_open _ 1 c.in_ok-way.ensures e c.in_ok-part1-in_default.ensures)

pub n-returns-in_err-part1 : goal.n-returns-in_err-part1
unfolding grammar model_ways model_deepens
n-returns-in_err-part1 t c = let known = c.in_ok-choose.ensures.known in let e : c.in_ok-choose.field-0 ≡ 0 = omega arith in err_exit _ _ _ c.from_residual-in_err-part1.ensures.1 (fails_open _ 0 c.in_ok-choose.ensures e (fails_here _ c.in_err-part1.ensures))

pub n-returns-in_err-box1 : goal.n-returns-in_err-box1
unfolding grammar model_ways model_deepens
n-returns-in_err-box1 t c = err_exit _ _ _ c.from_residual-in_err-box1.ensures.1 fails_memory

pub n-returns-in_err-part2 : goal.n-returns-in_err-part2
unfolding grammar model_ways model_deepens
n-returns-in_err-part2 t c = let known = c.in_ok-choose.ensures.known in let e : c.in_ok-choose.field-0 ≡ 0 = omega arith in err_exit _ _ _ c.from_residual-in_err-part2.ensures.1 (fails_open _ 0 c.in_ok-choose.ensures e (fails_next c.in_ok-part1.ensures (fails_here _ c.in_err-part2.ensures)))

pub n-returns-in_err-box2 : goal.n-returns-in_err-box2
unfolding grammar model_ways model_deepens
n-returns-in_err-box2 t c = err_exit _ _ _ c.from_residual-in_err-box2.ensures.1 fails_memory

pub n-returns : goal.n-returns
unfolding grammar model_ways model_deepens
n-returns t c = let known = c.in_ok-choose.ensures.known in let e : c.in_ok-choose.field-0 ≡ 0 = omega arith in moves_same (n_made1 _ _ _ _ _ c.in_ok-box1.ensures.ok c.in_ok-box2.ensures.ok) (moves_open _ 0 c.in_ok-choose.ensures e (moves_next c.in_ok-part1.ensures c.in_ok-part2.ensures))

pub n1-returns-in_err-part1-in-0 : goal.n1-returns-in_err-part1-in-0
unfolding grammar model_ways model_deepens
n1-returns-in_err-part1-in-0 t c = err_exit _ _ _ c.from_residual-in_err-part1-in-0.ensures.1 (fails_open _ 0 c.in_ok-way.ensures c.in-0.is (fails_here _ c.in_err-part1-in-0.ensures.read))

pub n1-returns-in_err-part2-in-0 : goal.n1-returns-in_err-part2-in-0
unfolding grammar model_ways model_deepens
n1-returns-in_err-part2-in-0 t c = err_exit _ _ _ c.from_residual-in_err-part2-in-0.ensures.1 (fails_open _ 0 c.in_ok-way.ensures c.in-0.is (fails_next c.in_ok-part1-in-0.ensures.read (fails_here _ c.in_err-part2-in-0.ensures)))

pub n1-returns-in_err-box2-in-0 : goal.n1-returns-in_err-box2-in-0
unfolding grammar model_ways model_deepens
n1-returns-in_err-box2-in-0 t c = err_exit _ _ _ c.from_residual-in_err-box2-in-0.ensures.1 fails_memory

pub n1-returns-in_ok-box2-in-0 : goal.n1-returns-in_ok-box2-in-0
unfolding grammar model_ways model_deepens
n1-returns-in_ok-box2-in-0 t c = moves_same (n1_made1 _ _ _ _ c.in_ok-box2-in-0.ensures.ok) (moves_open _ 0 c.in_ok-way.ensures c.in-0.is (moves_next c.in_ok-part1-in-0.ensures.read c.in_ok-part2-in-0.ensures))

pub n1-returns-in_default : goal.n1-returns-in_default
unfolding grammar model_ways model_deepens
n1-returns-in_default t c = let known = c.in_ok-way.ensures.known in let e : c.in_ok-way.way ≡ 1 = omega arith in moves_same (n1_made2 _) (moves_open _ 1 c.in_ok-way.ensures e (moves_none _ _ c.requires.inside))

pub a-returns-in_err-part1-in-0 : goal.a-returns-in_err-part1-in-0
unfolding grammar model_ways model_deepens
a-returns-in_err-part1-in-0 t c = err_exit _ _ _ c.from_residual-in_err-part1-in-0.ensures.1 (fails_open _ 0 c.in_ok-way.ensures c.in-0.is (fails_here _ c.in_err-part1-in-0.ensures.read))

pub a-returns-in_err-part2-in-0 : goal.a-returns-in_err-part2-in-0
unfolding grammar model_ways model_deepens
a-returns-in_err-part2-in-0 t c = err_exit _ _ _ c.from_residual-in_err-part2-in-0.ensures.1 (fails_open _ 0 c.in_ok-way.ensures c.in-0.is (fails_next c.in_ok-part1-in-0.ensures.read (fails_here _ c.in_err-part2-in-0.ensures)))

pub a-returns-in_err-part3-in-0 : goal.a-returns-in_err-part3-in-0
unfolding grammar model_ways model_deepens
a-returns-in_err-part3-in-0 t c = err_exit _ _ _ c.from_residual-in_err-part3-in-0.ensures.1 (fails_open _ 0 c.in_ok-way.ensures c.in-0.is (fails_next c.in_ok-part1-in-0.ensures.read (fails_next c.in_ok-part2-in-0.ensures (fails_here _ c.in_err-part3-in-0.ensures))))

pub a-returns-in_ok-part3-in-0 : goal.a-returns-in_ok-part3-in-0
unfolding grammar model_ways model_deepens
a-returns-in_ok-part3-in-0 t c = moves_same (a_made1 _ _ _ _) (moves_open _ 0 c.in_ok-way.ensures c.in-0.is (moves_next c.in_ok-part1-in-0.ensures.read (moves_next c.in_ok-part2-in-0.ensures c.in_ok-part3-in-0.ensures)))

pub a-returns-in_err-part1-in-1 : goal.a-returns-in_err-part1-in-1
unfolding grammar model_ways model_deepens
a-returns-in_err-part1-in-1 t c = err_exit _ _ _ c.from_residual-in_err-part1-in-1.ensures.1 (fails_open _ 1 c.in_ok-way.ensures c.in-1.is (fails_here _ c.in_err-part1-in-1.ensures))

pub a-returns-in_ok-part1-in-1 : goal.a-returns-in_ok-part1-in-1
unfolding grammar model_ways model_deepens
a-returns-in_ok-part1-in-1 t c = moves_same (a_made2 _ _) (moves_open _ 1 c.in_ok-way.ensures c.in-1.is c.in_ok-part1-in-1.ensures)

pub a-returns-in_err-part1-in-2 : goal.a-returns-in_err-part1-in-2
unfolding grammar model_ways model_deepens
a-returns-in_err-part1-in-2 t c = err_exit _ _ _ c.from_residual-in_err-part1-in-2.ensures.1 (fails_open _ 2 c.in_ok-way.ensures c.in-2.is (fails_here _ c.in_err-part1-in-2.ensures.read))

pub a-returns-in_err-part2-in-2 : goal.a-returns-in_err-part2-in-2
unfolding grammar model_ways model_deepens
a-returns-in_err-part2-in-2 t c = err_exit _ _ _ c.from_residual-in_err-part2-in-2.ensures.1 (fails_open _ 2 c.in_ok-way.ensures c.in-2.is (fails_next c.in_ok-part1-in-2.ensures.read (fails_here _ c.in_err-part2-in-2.ensures)))

pub a-returns-in_err-part3-in-2 : goal.a-returns-in_err-part3-in-2
unfolding grammar model_ways model_deepens
a-returns-in_err-part3-in-2 t c = err_exit _ _ _ c.from_residual-in_err-part3-in-2.ensures.1 (fails_open _ 2 c.in_ok-way.ensures c.in-2.is (fails_next c.in_ok-part1-in-2.ensures.read (fails_next c.in_ok-part2-in-2.ensures (fails_here _ c.in_err-part3-in-2.ensures.read))))

pub a-returns-in_ok-part3-in-2 : goal.a-returns-in_ok-part3-in-2
unfolding grammar model_ways model_deepens
a-returns-in_ok-part3-in-2 t c = moves_same (a_made3 _ _ _ _) (moves_open _ 2 c.in_ok-way.ensures c.in-2.is (moves_next c.in_ok-part1-in-2.ensures.read (moves_next c.in_ok-part2-in-2.ensures c.in_ok-part3-in-2.ensures.read)))

pub a-returns-in_err-part1-in-3 : goal.a-returns-in_err-part1-in-3
unfolding grammar model_ways model_deepens
a-returns-in_err-part1-in-3 t c = err_exit _ _ _ c.from_residual-in_err-part1-in-3.ensures.1 (fails_open _ 3 c.in_ok-way.ensures c.in-3.is (fails_here _ c.in_err-part1-in-3.ensures.read))

pub a-returns-in_err-part2-in-3 : goal.a-returns-in_err-part2-in-3
unfolding grammar model_ways model_deepens
a-returns-in_err-part2-in-3 t c = err_exit _ _ _ c.from_residual-in_err-part2-in-3.ensures.1 (fails_open _ 3 c.in_ok-way.ensures c.in-3.is (fails_next c.in_ok-part1-in-3.ensures.read (fails_here _ c.in_err-part2-in-3.ensures)))

pub a-returns-in_ok-part2-in-3 : goal.a-returns-in_ok-part2-in-3
unfolding grammar model_ways model_deepens
a-returns-in_ok-part2-in-3 t c = moves_same (a_made4 _ _ _) (moves_open _ 3 c.in_ok-way.ensures c.in-3.is (moves_next c.in_ok-part1-in-3.ensures.read c.in_ok-part2-in-3.ensures))

pub a-returns-in_err-part1-in-4 : goal.a-returns-in_err-part1-in-4
unfolding grammar model_ways model_deepens
a-returns-in_err-part1-in-4 t c = err_exit _ _ _ c.from_residual-in_err-part1-in-4.ensures.1 (fails_open _ 4 c.in_ok-way.ensures c.in-4.is (fails_here _ c.in_err-part1-in-4.ensures.read))

pub a-returns-in_err-part2-in-4 : goal.a-returns-in_err-part2-in-4
unfolding grammar model_ways model_deepens
a-returns-in_err-part2-in-4 t c = err_exit _ _ _ c.from_residual-in_err-part2-in-4.ensures.1 (fails_open _ 4 c.in_ok-way.ensures c.in-4.is (fails_next c.in_ok-part1-in-4.ensures.read (fails_here _ c.in_err-part2-in-4.ensures.read)))

pub a-returns-in_err-part3-in-4 : goal.a-returns-in_err-part3-in-4
unfolding grammar model_ways model_deepens
a-returns-in_err-part3-in-4 t c = err_exit _ _ _ c.from_residual-in_err-part3-in-4.ensures.1 (fails_open _ 4 c.in_ok-way.ensures c.in-4.is (fails_next c.in_ok-part1-in-4.ensures.read (fails_next c.in_ok-part2-in-4.ensures.read (fails_here _ c.in_err-part3-in-4.ensures))))

pub a-returns-in_err-part4-in-4 : goal.a-returns-in_err-part4-in-4
unfolding grammar model_ways model_deepens
a-returns-in_err-part4-in-4 t c = err_exit _ _ _ c.from_residual-in_err-part4-in-4.ensures.1 (fails_open _ 4 c.in_ok-way.ensures c.in-4.is (fails_next c.in_ok-part1-in-4.ensures.read (fails_next c.in_ok-part2-in-4.ensures.read (fails_next c.in_ok-part3-in-4.ensures (fails_here _ c.in_err-part4-in-4.ensures.read)))))

pub a-returns-in_ok-part4-in-4 : goal.a-returns-in_ok-part4-in-4
unfolding grammar model_ways model_deepens
a-returns-in_ok-part4-in-4 t c = moves_same (a_made5 _ _ _ _ _) (moves_open _ 4 c.in_ok-way.ensures c.in-4.is (moves_next c.in_ok-part1-in-4.ensures.read (moves_next c.in_ok-part2-in-4.ensures.read (moves_next c.in_ok-part3-in-4.ensures c.in_ok-part4-in-4.ensures.read))))

pub a-returns-in_err-part1-in-5 : goal.a-returns-in_err-part1-in-5
unfolding grammar model_ways model_deepens
a-returns-in_err-part1-in-5 t c = err_exit _ _ _ c.from_residual-in_err-part1-in-5.ensures.1 (fails_open _ 5 c.in_ok-way.ensures c.in-5.is (fails_here _ c.in_err-part1-in-5.ensures.read))

pub a-returns-in_ok-part1-in-5 : goal.a-returns-in_ok-part1-in-5
unfolding grammar model_ways model_deepens
a-returns-in_ok-part1-in-5 t c = moves_same (a_made6 _ _) (moves_open _ 5 c.in_ok-way.ensures c.in-5.is c.in_ok-part1-in-5.ensures.read)

pub a-returns-in_err-part1-in-6 : goal.a-returns-in_err-part1-in-6
unfolding grammar model_ways model_deepens
a-returns-in_err-part1-in-6 t c = err_exit _ _ _ c.from_residual-in_err-part1-in-6.ensures.1 (fails_open _ 6 c.in_ok-way.ensures c.in-6.is (fails_here _ c.in_err-part1-in-6.ensures.read))

pub a-returns-in_ok-part1-in-6 : goal.a-returns-in_ok-part1-in-6
unfolding grammar model_ways model_deepens
a-returns-in_ok-part1-in-6 t c = moves_same (a_made7 _ _) (moves_open _ 6 c.in_ok-way.ensures c.in-6.is c.in_ok-part1-in-6.ensures.read)

pub a-returns-in_err-part1-in_default : goal.a-returns-in_err-part1-in_default
unfolding grammar model_ways model_deepens
a-returns-in_err-part1-in_default t c = let known = c.in_ok-way.ensures.known in let e : c.in_ok-way.way ≡ 7 = omega arith in err_exit _ _ _ c.from_residual-in_err-part1-in_default.ensures.1 (fails_open _ 7 c.in_ok-way.ensures e (fails_here _ c.in_err-part1-in_default.ensures.read))

pub a-returns-in_err-part2-in_default : goal.a-returns-in_err-part2-in_default
unfolding grammar model_ways model_deepens
a-returns-in_err-part2-in_default t c = let known = c.in_ok-way.ensures.known in let e : c.in_ok-way.way ≡ 7 = omega arith in err_exit _ _ _ c.from_residual-in_err-part2-in_default.ensures.1 (fails_open _ 7 c.in_ok-way.ensures e (fails_next c.in_ok-part1-in_default.ensures.read (fails_here _ c.in_err-part2-in_default.ensures)))

pub a-returns-in_err-box2-in_default : goal.a-returns-in_err-box2-in_default
unfolding grammar model_ways model_deepens
a-returns-in_err-box2-in_default t c = err_exit _ _ _ c.from_residual-in_err-box2-in_default.ensures.1 fails_memory

pub a-returns-in_err-part3-in_default : goal.a-returns-in_err-part3-in_default
unfolding grammar model_ways model_deepens
a-returns-in_err-part3-in_default t c = let known = c.in_ok-way.ensures.known in let e : c.in_ok-way.way ≡ 7 = omega arith in err_exit _ _ _ c.from_residual-in_err-part3-in_default.ensures.1 (fails_open _ 7 c.in_ok-way.ensures e (fails_next c.in_ok-part1-in_default.ensures.read (fails_next c.in_ok-part2-in_default.ensures (fails_here _ c.in_err-part3-in_default.ensures.read))))

pub a-returns-in_ok-part3-in_default : goal.a-returns-in_ok-part3-in_default
unfolding grammar model_ways model_deepens
a-returns-in_ok-part3-in_default t c = let known = c.in_ok-way.ensures.known in let e : c.in_ok-way.way ≡ 7 = omega arith in moves_same (a_made8 _ _ _ _ _ c.in_ok-box2-in_default.ensures.ok) (moves_open _ 7 c.in_ok-way.ensures e (moves_next c.in_ok-part1-in_default.ensures.read (moves_next c.in_ok-part2-in_default.ensures c.in_ok-part3-in_default.ensures.read)))
