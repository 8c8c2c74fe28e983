use Rattle.std.proofs.Common.{sym, ◌∙◌}
use Rattle.bg_syntax.proofs.Readings.{kind_there, kind_at_end}
use Rattle.bg_syntax.proofs.reader.kind_at.Goals as goal

pub returns-then-at-tokens-clause-is : goal.returns-then-at-tokens-clause-is
returns-then-at-tokens-clause-is c = c.number.ensures.is ∙ sym (kind_there c.args.tokens.now c.args.at _ c.if-at-tokens.true)

pub returns-else-at-tokens-clause-is : goal.returns-else-at-tokens-clause-is
returns-else-at-tokens-clause-is c = sym (kind_at_end c.args.tokens.now c.args.at c.if-at-tokens.false)
