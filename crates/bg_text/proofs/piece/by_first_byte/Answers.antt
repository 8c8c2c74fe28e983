use Rattle.std.proofs.Common.{sym}
use Rattle.bg_text.proofs.PieceLaws.{space_is}
use Rattle.bg_text.proofs.piece.by_first_byte.Goals as goal

pub returns-then-is_space : goal.returns-then-is_space
returns-then-is_space c = space_is c.args.bytes.now c.requires (sym c.if-is_space.ensures)
