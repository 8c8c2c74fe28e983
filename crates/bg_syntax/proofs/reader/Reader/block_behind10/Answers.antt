-- Written by tools/grammar.py.
use Rattle.bg_syntax.specs.Grammar.{model_ways, model_deepens, grammar}
use Rattle.bg_syntax.proofs.Readings.{moves_next, fails_here, fails_next, err_exit}
use Rattle.bg_syntax.specs.ModelsSteps.{block_behind10_steps}
use Rattle.bg_syntax.proofs.reader.Reader.block_behind10.Goals as goal

pub returns-in_err-part11 : goal.returns-in_err-part11
unfolding grammar model_ways model_deepens
returns-in_err-part11 c = err_exit _ _ _ c.from_residual.ensures.1 (fails_here _ c.in_err-part11.ensures.read)

pub returns-in_err-part12 : goal.returns-in_err-part12
unfolding grammar model_ways model_deepens
returns-in_err-part12 c = err_exit _ _ _ c.from_residual-in_err-part12.ensures.1 (fails_next c.in_ok-part11.ensures.read (fails_here _ c.in_err-part12.ensures.read))

pub returns-in_err-part13 : goal.returns-in_err-part13
unfolding grammar model_ways model_deepens
returns-in_err-part13 c = err_exit _ _ _ c.from_residual-in_err-part13.ensures.1 (fails_next c.in_ok-part11.ensures.read (fails_next c.in_ok-part12.ensures.read (fails_here _ c.in_err-part13.ensures)))

pub returns-in_err-part14 : goal.returns-in_err-part14
unfolding grammar model_ways model_deepens
returns-in_err-part14 c = err_exit _ _ _ c.from_residual-in_err-part14.ensures.1 (fails_next c.in_ok-part11.ensures.read (fails_next c.in_ok-part12.ensures.read (fails_next c.in_ok-part13.ensures (fails_here _ c.in_err-part14.ensures.read))))

pub returns : goal.returns
unfolding grammar model_ways model_deepens block_behind10_steps
returns c = moves_next c.in_ok-part11.ensures.read (moves_next c.in_ok-part12.ensures.read (moves_next c.in_ok-part13.ensures c.in_ok-part14.ensures.read))
