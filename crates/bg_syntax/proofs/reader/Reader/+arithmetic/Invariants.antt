-- Written by tools/grammar.py.
use Rattle.std.proofs.Common.{◌≤◌, ◌+◌, ◌-◌, ◌*◌, length}
use Rattle.bg_syntax.proofs.Readings.{Gathered}
use Rattle.bg_syntax.specs.ArithmeticSteps.{x1_item_steps, t1_item_steps}
use Rattle.bg_syntax.specs.declared.symbol.Symbol.TheVariants as symbols
use Rattle.bg_syntax.proofs.reader.Reader.+arithmetic.Given as goal

abbrev pub decreases-u : goal.decreases-u
decreases-u l = 5 * (length l.self.now.tokens.now - l.at.now) + 0

abbrev pub decreases-t1_item : goal.decreases-t1_item
decreases-t1_item l = 5 * (length l.self.now.tokens.now - l.at.now) + 0

abbrev pub decreases-t1 : goal.decreases-t1
decreases-t1 l = 5 * (length l.self.now.tokens.now - l.at.now) + 1

abbrev pub decreases-t : goal.decreases-t
decreases-t l = 5 * (length l.self.now.tokens.now - l.at.now) + 2

abbrev pub decreases-x1_item : goal.decreases-x1_item
decreases-x1_item l = 5 * (length l.self.now.tokens.now - l.at.now) + 0

abbrev pub decreases-x1 : goal.decreases-x1
decreases-x1 l = 5 * (length l.self.now.tokens.now - l.at.now) + 1

abbrev pub decreases-x : goal.decreases-x
decreases-x l = 5 * (length l.self.now.tokens.now - l.at.now) + 3

abbrev pub invariant-x1-loop-items : goal.invariant-x1-loop-items
invariant-x1-loop-items l = Gathered x1_item_steps l.self.tokens.now l.fn.at l.depth symbols.X1 l.items.items l.at × (l.at ≤ length l.self.tokens.now) × (l.depth ≤ l.at)

abbrev pub decreases-x1-loop-items : goal.decreases-x1-loop-items
decreases-x1-loop-items l = length l.self.tokens.now - l.at

abbrev pub invariant-t1-loop-items : goal.invariant-t1-loop-items
invariant-t1-loop-items l = Gathered t1_item_steps l.self.tokens.now l.fn.at l.depth symbols.T1 l.items.items l.at × (l.at ≤ length l.self.tokens.now) × (l.depth ≤ l.at)

abbrev pub decreases-t1-loop-items : goal.decreases-t1-loop-items
decreases-t1-loop-items l = length l.self.tokens.now - l.at
