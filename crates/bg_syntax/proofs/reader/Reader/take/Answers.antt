use Rattle.std.proofs.Common.{sym, ◌∙◌, arith}
use Rattle.bg_syntax.proofs.Readings.{fails_kind, fails_too_deep, moves_kind}
use Rattle.bg_syntax.proofs.reader.Reader.take.Goals as goal

pub returns-then-here-number-clause-read : goal.returns-then-here-number-clause-read
returns-then-here-number-clause-read c = fails_kind _ _ _ _ c.requires c.kind_at-here.ensures.is _ (λ q. c.if-here-number.true (q ∙ sym c.number.ensures.is))

pub returns-then-depth-gt-MOST_LEVELS-clause-read : goal.returns-then-depth-gt-MOST_LEVELS-clause-read
returns-then-depth-gt-MOST_LEVELS-clause-read c =
    fails_too_deep _ _ _ _ _ c.kind_at-here.ensures.is (omega arith) (c.if-here-number.false ∙ c.number.ensures.is) c.if-depth-gt-MOST_LEVELS.true

pub returns-clause-read : goal.returns-clause-read
returns-clause-read c = moves_kind _ _ _ _ _ c.kind_at-here.ensures.is (omega arith) (c.if-here-number.false ∙ c.number.ensures.is) c.if-depth-gt-MOST_LEVELS.false
