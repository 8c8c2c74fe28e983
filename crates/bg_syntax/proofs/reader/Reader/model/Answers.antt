-- Written by tools/grammar.py.
use Rattle.std.proofs.Common.{◌≡◌, arith}
use Rattle.bg_syntax.specs.Grammar.{model_ways, model_deepens, grammar}
use Rattle.bg_syntax.proofs.Readings.{moves_next, moves_open, fails_here, fails_next, fails_open, err_exit}
use Rattle.bg_syntax.specs.ModelsSteps.{model_steps}
use Rattle.bg_syntax.proofs.reader.Reader.model.Goals as goal

pub returns-in_err-part1 : goal.returns-in_err-part1
unfolding grammar model_ways model_deepens
returns-in_err-part1 c = let known = c.in_ok-choose.ensures.known in let e : c.in_ok-choose.field-0 ≡ 0 = omega arith in err_exit _ _ _ c.from_residual-in_err-part1.ensures.1 (fails_open _ 0 c.in_ok-choose.ensures e (fails_here _ c.in_err-part1.ensures))

pub returns-in_err-part2 : goal.returns-in_err-part2
unfolding grammar model_ways model_deepens
returns-in_err-part2 c = let known = c.in_ok-choose.ensures.known in let e : c.in_ok-choose.field-0 ≡ 0 = omega arith in err_exit _ _ _ c.from_residual-in_err-part2.ensures.1 (fails_open _ 0 c.in_ok-choose.ensures e (fails_next c.in_ok-part1.ensures (fails_here _ c.in_err-part2.ensures)))

pub returns : goal.returns
unfolding grammar model_ways model_deepens model_steps
returns c = let known = c.in_ok-choose.ensures.known in let e : c.in_ok-choose.field-0 ≡ 0 = omega arith in moves_open _ 0 c.in_ok-choose.ensures e (moves_next c.in_ok-part1.ensures c.in_ok-part2.ensures)
