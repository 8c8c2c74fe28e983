-- Written by tools/grammar.py.
use Rattle.std.proofs.Common.{◌≤◌, ◌+◌, ◌-◌, ◌*◌, length}
use Rattle.bg_syntax.proofs.Readings.{Gathered}
use Rattle.bg_syntax.specs.ExpressionsSteps.{e1_item_steps, p1_item_steps, m1_item_steps, c1_item_steps}
use Rattle.bg_syntax.specs.declared.symbol.Symbol.TheVariants as symbols
use Rattle.bg_syntax.proofs.reader.Reader.+expressions.Given as goal

abbrev pub decreases-a : goal.decreases-a
decreases-a l = 8 * (length l.self.now.tokens.now - l.at.now) + 0

abbrev pub decreases-n1 : goal.decreases-n1
decreases-n1 l = 8 * (length l.self.now.tokens.now - l.at.now) + 0

abbrev pub decreases-n : goal.decreases-n
decreases-n l = 8 * (length l.self.now.tokens.now - l.at.now) + 1

abbrev pub decreases-k : goal.decreases-k
decreases-k l = 8 * (length l.self.now.tokens.now - l.at.now) + 2

abbrev pub decreases-c1_item : goal.decreases-c1_item
decreases-c1_item l = 8 * (length l.self.now.tokens.now - l.at.now) + 0

abbrev pub decreases-c1 : goal.decreases-c1
decreases-c1 l = 8 * (length l.self.now.tokens.now - l.at.now) + 1

abbrev pub decreases-c : goal.decreases-c
decreases-c l = 8 * (length l.self.now.tokens.now - l.at.now) + 3

abbrev pub decreases-m1_item : goal.decreases-m1_item
decreases-m1_item l = 8 * (length l.self.now.tokens.now - l.at.now) + 0

abbrev pub decreases-m1 : goal.decreases-m1
decreases-m1 l = 8 * (length l.self.now.tokens.now - l.at.now) + 1

abbrev pub decreases-m : goal.decreases-m
decreases-m l = 8 * (length l.self.now.tokens.now - l.at.now) + 4

abbrev pub decreases-p1_item : goal.decreases-p1_item
decreases-p1_item l = 8 * (length l.self.now.tokens.now - l.at.now) + 0

abbrev pub decreases-p1 : goal.decreases-p1
decreases-p1 l = 8 * (length l.self.now.tokens.now - l.at.now) + 1

abbrev pub decreases-p : goal.decreases-p
decreases-p l = 8 * (length l.self.now.tokens.now - l.at.now) + 5

abbrev pub decreases-e1_item : goal.decreases-e1_item
decreases-e1_item l = 8 * (length l.self.now.tokens.now - l.at.now) + 0

abbrev pub decreases-e1 : goal.decreases-e1
decreases-e1 l = 8 * (length l.self.now.tokens.now - l.at.now) + 1

abbrev pub decreases-e : goal.decreases-e
decreases-e l = 8 * (length l.self.now.tokens.now - l.at.now) + 6

abbrev pub invariant-e1-loop-items : goal.invariant-e1-loop-items
invariant-e1-loop-items l = Gathered e1_item_steps l.self.tokens.now l.fn.at l.depth symbols.E1 l.items.items l.at × (l.at ≤ length l.self.tokens.now) × (l.depth ≤ l.at)

abbrev pub decreases-e1-loop-items : goal.decreases-e1-loop-items
decreases-e1-loop-items l = length l.self.tokens.now - l.at

abbrev pub invariant-p1-loop-items : goal.invariant-p1-loop-items
invariant-p1-loop-items l = Gathered p1_item_steps l.self.tokens.now l.fn.at l.depth symbols.P1 l.items.items l.at × (l.at ≤ length l.self.tokens.now) × (l.depth ≤ l.at)

abbrev pub decreases-p1-loop-items : goal.decreases-p1-loop-items
decreases-p1-loop-items l = length l.self.tokens.now - l.at

abbrev pub invariant-m1-loop-items : goal.invariant-m1-loop-items
invariant-m1-loop-items l = Gathered m1_item_steps l.self.tokens.now l.fn.at l.depth symbols.M1 l.items.items l.at × (l.at ≤ length l.self.tokens.now) × (l.depth ≤ l.at)

abbrev pub decreases-m1-loop-items : goal.decreases-m1-loop-items
decreases-m1-loop-items l = length l.self.tokens.now - l.at

abbrev pub invariant-c1-loop-items : goal.invariant-c1-loop-items
invariant-c1-loop-items l = Gathered c1_item_steps l.self.tokens.now l.fn.at l.depth symbols.C1 l.items.items l.at × (l.at ≤ length l.self.tokens.now) × (l.depth ≤ l.at)

abbrev pub decreases-c1-loop-items : goal.decreases-c1-loop-items
decreases-c1-loop-items l = length l.self.tokens.now - l.at
