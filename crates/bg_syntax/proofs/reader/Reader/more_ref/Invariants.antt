-- Written by tools/grammar.py.
use Rattle.std.proofs.Common.{◌≤◌, ◌-◌, length}
use Rattle.bg_syntax.proofs.Readings.{Gathered}
use Rattle.bg_syntax.specs.ModelsSteps.{more_ref_item_steps}
use Rattle.bg_syntax.specs.declared.symbol.Symbol.TheVariants as symbols
use Rattle.bg_syntax.proofs.reader.Reader.more_ref.Given as goal

abbrev pub invariant-loop-items : goal.invariant-loop-items
invariant-loop-items l = Gathered more_ref_item_steps l.self.tokens.now l.fn.at l.depth symbols.MoreRef l.items.items l.at × (l.at ≤ length l.self.tokens.now) × (l.depth ≤ l.at)

abbrev pub decreases-loop-items : goal.decreases-loop-items
decreases-loop-items l = length l.self.tokens.now - l.at
