-- Written by tools/grammar.py.
use Rattle.std.proofs.Common.{◌≡◌, arith}
use Rattle.bg_syntax.specs.Grammar.{model_ways, model_deepens, grammar}
use Rattle.bg_syntax.proofs.Readings.{moves_next, moves_open, fails_here, fails_next, fails_open, err_exit}
use Rattle.bg_syntax.specs.StatementsSteps.{after_fun_steps}
use Rattle.bg_syntax.proofs.reader.Reader.after_fun.Goals as goal

pub returns-in_err-part1-in-0 : goal.returns-in_err-part1-in-0
unfolding grammar model_ways model_deepens
returns-in_err-part1-in-0 c = err_exit _ _ _ c.from_residual-in_err-part1-in-0.ensures.1 (fails_open _ 0 c.in_ok-way.ensures c.in-0.is (fails_here _ c.in_err-part1-in-0.ensures.read))

pub returns-in_err-part2-in-0 : goal.returns-in_err-part2-in-0
unfolding grammar model_ways model_deepens
returns-in_err-part2-in-0 c = err_exit _ _ _ c.from_residual-in_err-part2-in-0.ensures.1 (fails_open _ 0 c.in_ok-way.ensures c.in-0.is (fails_next c.in_ok-part1-in-0.ensures.read (fails_here _ c.in_err-part2-in-0.ensures.read)))

pub returns-in_err-part3-in-0 : goal.returns-in_err-part3-in-0
unfolding grammar model_ways model_deepens
returns-in_err-part3-in-0 c = err_exit _ _ _ c.from_residual-in_err-part3-in-0.ensures.1 (fails_open _ 0 c.in_ok-way.ensures c.in-0.is (fails_next c.in_ok-part1-in-0.ensures.read (fails_next c.in_ok-part2-in-0.ensures.read (fails_here _ c.in_err-part3-in-0.ensures))))

pub returns-in_ok-part3-in-0 : goal.returns-in_ok-part3-in-0
unfolding grammar model_ways model_deepens after_fun_steps
returns-in_ok-part3-in-0 c = moves_open _ 0 c.in_ok-way.ensures c.in-0.is (moves_next c.in_ok-part1-in-0.ensures.read (moves_next c.in_ok-part2-in-0.ensures.read c.in_ok-part3-in-0.ensures))

pub returns-in_err-part1-in-1 : goal.returns-in_err-part1-in-1
unfolding grammar model_ways model_deepens
returns-in_err-part1-in-1 c = err_exit _ _ _ c.from_residual-in_err-part1-in-1.ensures.1 (fails_open _ 1 c.in_ok-way.ensures c.in-1.is (fails_here _ c.in_err-part1-in-1.ensures.read))

pub returns-in_err-part2-in-1 : goal.returns-in_err-part2-in-1
unfolding grammar model_ways model_deepens
returns-in_err-part2-in-1 c = err_exit _ _ _ c.from_residual-in_err-part2-in-1.ensures.1 (fails_open _ 1 c.in_ok-way.ensures c.in-1.is (fails_next c.in_ok-part1-in-1.ensures.read (fails_here _ c.in_err-part2-in-1.ensures)))

pub returns-in_ok-part2-in-1 : goal.returns-in_ok-part2-in-1
unfolding grammar model_ways model_deepens after_fun_steps
returns-in_ok-part2-in-1 c = moves_open _ 1 c.in_ok-way.ensures c.in-1.is (moves_next c.in_ok-part1-in-1.ensures.read c.in_ok-part2-in-1.ensures)

pub returns-in_err-part1-in-2 : goal.returns-in_err-part1-in-2
unfolding grammar model_ways model_deepens
returns-in_err-part1-in-2 c = err_exit _ _ _ c.from_residual-in_err-part1-in-2.ensures.1 (fails_open _ 2 c.in_ok-way.ensures c.in-2.is (fails_here _ c.in_err-part1-in-2.ensures.read))

pub returns-in_err-part2-in-2 : goal.returns-in_err-part2-in-2
unfolding grammar model_ways model_deepens
returns-in_err-part2-in-2 c = err_exit _ _ _ c.from_residual-in_err-part2-in-2.ensures.1 (fails_open _ 2 c.in_ok-way.ensures c.in-2.is (fails_next c.in_ok-part1-in-2.ensures.read (fails_here _ c.in_err-part2-in-2.ensures)))

pub returns-in_ok-part2-in-2 : goal.returns-in_ok-part2-in-2
unfolding grammar model_ways model_deepens after_fun_steps
returns-in_ok-part2-in-2 c = moves_open _ 2 c.in_ok-way.ensures c.in-2.is (moves_next c.in_ok-part1-in-2.ensures.read c.in_ok-part2-in-2.ensures)

pub returns-in_err-part1-in_default : goal.returns-in_err-part1-in_default
unfolding grammar model_ways model_deepens
returns-in_err-part1-in_default c = let known = c.in_ok-way.ensures.known in let e : c.in_ok-way.way ≡ 3 = omega arith in err_exit _ _ _ c.from_residual-in_err-part1-in_default.ensures.1 (fails_open _ 3 c.in_ok-way.ensures e (fails_here _ c.in_err-part1-in_default.ensures.read))

pub returns-in_err-part2-in_default : goal.returns-in_err-part2-in_default
unfolding grammar model_ways model_deepens
returns-in_err-part2-in_default c = let known = c.in_ok-way.ensures.known in let e : c.in_ok-way.way ≡ 3 = omega arith in err_exit _ _ _ c.from_residual-in_err-part2-in_default.ensures.1 (fails_open _ 3 c.in_ok-way.ensures e (fails_next c.in_ok-part1-in_default.ensures.read (fails_here _ c.in_err-part2-in_default.ensures)))

pub returns-in_ok-part2-in_default : goal.returns-in_ok-part2-in_default
unfolding grammar model_ways model_deepens after_fun_steps
returns-in_ok-part2-in_default c = let known = c.in_ok-way.ensures.known in let e : c.in_ok-way.way ≡ 3 = omega arith in moves_open _ 3 c.in_ok-way.ensures e (moves_next c.in_ok-part1-in_default.ensures.read c.in_ok-part2-in_default.ensures)
