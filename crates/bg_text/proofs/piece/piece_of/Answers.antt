use Rattle.bg_text.proofs.PieceLaws.{piece_within}
use Rattle.bg_text.proofs.piece.piece_of.Goals as goal

pub returns-clause-within : goal.returns-clause-within
returns-clause-within c = piece_within c.args.bytes.now c.by_first_byte.result c.by_first_byte.ensures
