use Rattle.std.proofs.Common.{refl, arith}
use Rattle.bg_syntax.proofs.Readings.{fails_symbol, chooses}
use Rattle.bg_syntax.proofs.reader.Reader.choose.Goals as goal

pub returns-then-found-eq0 : goal.returns-then-found-eq0
returns-then-found-eq0 c = λ depth. fails_symbol _ _ _ _ depth _ c.kind_at.ensures.is c.entry-found.ensures c.if-found-eq0.true

pub returns : goal.returns
returns c = chooses _ _ _ _ _ _ c.kind_at.ensures.is c.entry-found.ensures (let h = c.if-found-eq0.false in omega arith, refl) c.requires
