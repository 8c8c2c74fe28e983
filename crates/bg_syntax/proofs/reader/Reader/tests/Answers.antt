-- Written by tools/grammar.py.
use Rattle.std.proofs.Common.{arith}
use Rattle.bg_syntax.specs.Steps.{opens}
use Rattle.bg_syntax.specs.Reading.{fails_memory}
use Rattle.bg_syntax.proofs.Readings.{err_exit, gathered_none, gathered_more, gathered_end, gathered_fails}
use Rattle.bg_syntax.specs.StatementsSteps.{tests_steps}
use Rattle.bg_syntax.specs.declared.symbol.Symbol.TheVariants as symbols
use Rattle.bg_syntax.proofs.reader.Reader.tests.Goals as goal

pub loop-items-init : goal.loop-items-init
loop-items-init c = (gathered_none _ _ _ _ _ _ c.new-items.ensures.items c.requires.inside, c.requires.inside, c.requires.shallow)

pub returns-in_err-item : goal.returns-in_err-item
returns-in_err-item c = err_exit _ _ _ c.from_residual.ensures.1 (gathered_fails c.loop-items.invariant.0 c.in_err-item.ensures)

pub returns-in_err-push : goal.returns-in_err-push
returns-in_err-push c = err_exit _ _ _ c.from_residual-in_err-push.ensures.1 fails_memory

pub loop-items-preserved : goal.loop-items-preserved
loop-items-preserved c = let read = rw c.in-Some.is at c.in_ok-item.ensures in let next = read.0.within in let further = read.1 in (gathered_more _ c.loop-items.invariant.0 read.0 c.in_ok-push.ensures.items, next, omega arith)

pub returns : goal.returns
unfolding tests_steps
returns c = let read = rw c.in_default.is at c.in_ok-item.ensures in gathered_end (opens symbols.Tests 1) c.loop-items.invariant.0 read
