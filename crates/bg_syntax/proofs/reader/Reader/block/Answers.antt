-- Written by tools/grammar.py.
use Rattle.std.proofs.Common.{◌≡◌, arith}
use Rattle.bg_syntax.specs.Grammar.{model_ways, model_deepens, grammar}
use Rattle.bg_syntax.proofs.Readings.{moves_none, moves_next, moves_open, fails_here, fails_next, fails_open, err_exit}
use Rattle.bg_syntax.specs.ModelsSteps.{block_steps, block_behind5_steps, block_behind10_steps}
use Rattle.bg_syntax.proofs.reader.Reader.block.Goals as goal

pub returns-in_err-part1-in-0 : goal.returns-in_err-part1-in-0
unfolding grammar model_ways model_deepens
returns-in_err-part1-in-0 c = err_exit _ _ _ c.from_residual-in_err-part1-in-0.ensures.1 (fails_open _ 0 c.in_ok-way.ensures c.in-0.is (fails_here _ c.in_err-part1-in-0.ensures.read))

pub returns-in_err-part2-in-0 : goal.returns-in_err-part2-in-0
unfolding grammar model_ways model_deepens
returns-in_err-part2-in-0 c = err_exit _ _ _ c.from_residual-in_err-part2-in-0.ensures.1 (fails_open _ 0 c.in_ok-way.ensures c.in-0.is (fails_next c.in_ok-part1-in-0.ensures.read (fails_here _ c.in_err-part2-in-0.ensures.read)))

pub returns-in_err-part3-in-0 : goal.returns-in_err-part3-in-0
unfolding grammar model_ways model_deepens
returns-in_err-part3-in-0 c = err_exit _ _ _ c.from_residual-in_err-part3-in-0.ensures.1 (fails_open _ 0 c.in_ok-way.ensures c.in-0.is (fails_next c.in_ok-part1-in-0.ensures.read (fails_next c.in_ok-part2-in-0.ensures.read (fails_here _ c.in_err-part3-in-0.ensures))))

pub returns-in_err-part4-in-0 : goal.returns-in_err-part4-in-0
unfolding grammar model_ways model_deepens
returns-in_err-part4-in-0 c = err_exit _ _ _ c.from_residual-in_err-part4-in-0.ensures.1 (fails_open _ 0 c.in_ok-way.ensures c.in-0.is (fails_next c.in_ok-part1-in-0.ensures.read (fails_next c.in_ok-part2-in-0.ensures.read (fails_next c.in_ok-part3-in-0.ensures (fails_here _ c.in_err-part4-in-0.ensures.read)))))

pub returns-in_err-part5-in-0 : goal.returns-in_err-part5-in-0
unfolding grammar model_ways model_deepens
returns-in_err-part5-in-0 c = err_exit _ _ _ c.from_residual-in_err-part5-in-0.ensures.1 (fails_open _ 0 c.in_ok-way.ensures c.in-0.is (fails_next c.in_ok-part1-in-0.ensures.read (fails_next c.in_ok-part2-in-0.ensures.read (fails_next c.in_ok-part3-in-0.ensures (fails_next c.in_ok-part4-in-0.ensures.read (fails_here _ c.in_err-part5-in-0.ensures))))))

pub returns-in_err-rest-in-0 : goal.returns-in_err-rest-in-0
unfolding grammar model_ways model_deepens
returns-in_err-rest-in-0 c = err_exit _ _ _ c.from_residual-in_err-rest-in-0.ensures.1 (fails_open _ 0 c.in_ok-way.ensures c.in-0.is (fails_next c.in_ok-part1-in-0.ensures.read (fails_next c.in_ok-part2-in-0.ensures.read (fails_next c.in_ok-part3-in-0.ensures (fails_next c.in_ok-part4-in-0.ensures.read (fails_next c.in_ok-part5-in-0.ensures c.in_err-rest-in-0.ensures))))))

pub returns-in_ok-rest-in-0 : goal.returns-in_ok-rest-in-0
unfolding grammar model_ways model_deepens block_steps block_behind5_steps block_behind10_steps
returns-in_ok-rest-in-0 c = moves_open _ 0 c.in_ok-way.ensures c.in-0.is (moves_next c.in_ok-part1-in-0.ensures.read (moves_next c.in_ok-part2-in-0.ensures.read (moves_next c.in_ok-part3-in-0.ensures (moves_next c.in_ok-part4-in-0.ensures.read (moves_next c.in_ok-part5-in-0.ensures c.in_ok-rest-in-0.ensures)))))

pub returns-in_default : goal.returns-in_default
unfolding grammar model_ways model_deepens block_steps
returns-in_default c = let known = c.in_ok-way.ensures.known in let e : c.in_ok-way.way ≡ 1 = omega arith in moves_open _ 1 c.in_ok-way.ensures e (moves_none _ _ c.requires.inside)
