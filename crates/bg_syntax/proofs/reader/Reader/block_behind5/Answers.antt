-- Written by tools/grammar.py.
use Rattle.bg_syntax.specs.Grammar.{model_ways, model_deepens, grammar}
use Rattle.bg_syntax.proofs.Readings.{moves_next, fails_here, fails_next, err_exit}
use Rattle.bg_syntax.specs.ModelsSteps.{block_behind5_steps}
use Rattle.bg_syntax.proofs.reader.Reader.block_behind5.Goals as goal

pub returns-in_err-part6 : goal.returns-in_err-part6
unfolding grammar model_ways model_deepens
returns-in_err-part6 c = err_exit _ _ _ c.from_residual.ensures.1 (fails_here _ c.in_err-part6.ensures.read)

pub returns-in_err-part7 : goal.returns-in_err-part7
unfolding grammar model_ways model_deepens
returns-in_err-part7 c = err_exit _ _ _ c.from_residual-in_err-part7.ensures.1 (fails_next c.in_ok-part6.ensures.read (fails_here _ c.in_err-part7.ensures.read))

pub returns-in_err-part8 : goal.returns-in_err-part8
unfolding grammar model_ways model_deepens
returns-in_err-part8 c = err_exit _ _ _ c.from_residual-in_err-part8.ensures.1 (fails_next c.in_ok-part6.ensures.read (fails_next c.in_ok-part7.ensures.read (fails_here _ c.in_err-part8.ensures.read)))

pub returns-in_err-part9 : goal.returns-in_err-part9
unfolding grammar model_ways model_deepens
returns-in_err-part9 c = err_exit _ _ _ c.from_residual-in_err-part9.ensures.1 (fails_next c.in_ok-part6.ensures.read (fails_next c.in_ok-part7.ensures.read (fails_next c.in_ok-part8.ensures.read (fails_here _ c.in_err-part9.ensures.read))))

pub returns-in_err-part10 : goal.returns-in_err-part10
unfolding grammar model_ways model_deepens
returns-in_err-part10 c = err_exit _ _ _ c.from_residual-in_err-part10.ensures.1 (fails_next c.in_ok-part6.ensures.read (fails_next c.in_ok-part7.ensures.read (fails_next c.in_ok-part8.ensures.read (fails_next c.in_ok-part9.ensures.read (fails_here _ c.in_err-part10.ensures)))))

pub returns-in_err-rest : goal.returns-in_err-rest
unfolding grammar model_ways model_deepens
returns-in_err-rest c = err_exit _ _ _ c.from_residual-in_err-rest.ensures.1 (fails_next c.in_ok-part6.ensures.read (fails_next c.in_ok-part7.ensures.read (fails_next c.in_ok-part8.ensures.read (fails_next c.in_ok-part9.ensures.read (fails_next c.in_ok-part10.ensures c.in_err-rest.ensures)))))

pub returns : goal.returns
unfolding grammar model_ways model_deepens block_behind5_steps
returns c = moves_next c.in_ok-part6.ensures.read (moves_next c.in_ok-part7.ensures.read (moves_next c.in_ok-part8.ensures.read (moves_next c.in_ok-part9.ensures.read (moves_next c.in_ok-part10.ensures c.in_ok-rest.ensures))))
