-- Written by tools/grammar.py.
use Rattle.std.proofs.Common.{[], ◌∷◌, ◌≡◌, refl, arith}
use Rattle.bg_syntax.specs.Grammar.{model_ways, model_deepens, grammar}
use Rattle.bg_syntax.specs.Steps.{opens}
use Rattle.bg_syntax.proofs.Readings.{moves_none, moves_open, loops_open, fails_here, fails_open, err_item, solid_ahead}
use Rattle.bg_syntax.specs.ModelsSteps.{stmts_item_steps}
use Rattle.bg_syntax.specs.declared.symbol.Symbol.TheVariants as symbols
use Rattle.bg_syntax.proofs.reader.Reader.stmts_item.Goals as goal

pub returns-in_err-part1-in-0 : goal.returns-in_err-part1-in-0
unfolding grammar model_ways model_deepens
returns-in_err-part1-in-0 c = err_item (λ x. stmts_item_steps x c.args.depth) _ _ symbols.Stmts (opens symbols.Stmts 1 ∷ []) _ _ c.from_residual-in_err-part1-in-0.ensures.1 (fails_open _ 0 c.in_ok-way.ensures c.in-0.is (fails_here _ c.in_err-part1-in-0.ensures))

pub returns-in_ok-part1-in-0 : goal.returns-in_ok-part1-in-0
unfolding grammar model_ways model_deepens stmts_item_steps
returns-in_ok-part1-in-0 c = (loops_open _ 0 c.in_ok-way.ensures c.in-0.is c.in_ok-part1-in-0.ensures refl, solid_ahead c.in_ok-part1-in-0.ensures refl)

pub returns-in_default : goal.returns-in_default
unfolding grammar model_ways model_deepens stmts_item_steps
returns-in_default c = let known = c.in_ok-way.ensures.known in let e : c.in_ok-way.way ≡ 1 = omega arith in moves_open _ 1 c.in_ok-way.ensures e (moves_none _ _ c.requires.inside)
