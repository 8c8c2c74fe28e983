-- Written by tools/grammar.py.
use Rattle.std.proofs.Common.{[], ◌∷◌, ◌≡◌, refl, arith}
use Rattle.bg_syntax.specs.Grammar.{model_ways, model_deepens, grammar}
use Rattle.bg_syntax.specs.Steps.{opens}
use Rattle.bg_syntax.proofs.Readings.{moves_none, moves_next, moves_open, loops_open, fails_here, fails_next, fails_open, err_item}
use Rattle.bg_syntax.specs.StatementsSteps.{tests_item_steps}
use Rattle.bg_syntax.specs.declared.symbol.Symbol.TheVariants as symbols
use Rattle.bg_syntax.proofs.reader.Reader.tests_item.Goals as goal

pub returns-in_err-part1-in-0 : goal.returns-in_err-part1-in-0
unfolding grammar model_ways model_deepens
returns-in_err-part1-in-0 c = err_item (λ x. tests_item_steps x c.args.depth) _ _ symbols.Tests (opens symbols.Tests 1 ∷ []) _ _ c.from_residual-in_err-part1-in-0.ensures.1 (fails_open _ 0 c.in_ok-way.ensures c.in-0.is (fails_here _ c.in_err-part1-in-0.ensures.read))

pub returns-in_err-part2-in-0 : goal.returns-in_err-part2-in-0
unfolding grammar model_ways model_deepens
returns-in_err-part2-in-0 c = err_item (λ x. tests_item_steps x c.args.depth) _ _ symbols.Tests (opens symbols.Tests 1 ∷ []) _ _ c.from_residual-in_err-part2-in-0.ensures.1 (fails_open _ 0 c.in_ok-way.ensures c.in-0.is (fails_next c.in_ok-part1-in-0.ensures.read (fails_here _ c.in_err-part2-in-0.ensures)))

pub returns-in_ok-part2-in-0 : goal.returns-in_ok-part2-in-0
unfolding grammar model_ways model_deepens tests_item_steps
returns-in_ok-part2-in-0 c = (loops_open _ 0 c.in_ok-way.ensures c.in-0.is (moves_next c.in_ok-part1-in-0.ensures.read c.in_ok-part2-in-0.ensures) refl, omega (arith, c.in_ok-part1-in-0.ensures.ahead, c.in_ok-part2-in-0.ensures.ahead))

pub returns-in_default : goal.returns-in_default
unfolding grammar model_ways model_deepens tests_item_steps
returns-in_default c = let known = c.in_ok-way.ensures.known in let e : c.in_ok-way.way ≡ 1 = omega arith in moves_open _ 1 c.in_ok-way.ensures e (moves_none _ _ c.requires.inside)
