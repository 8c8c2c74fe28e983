use Rattle.std.proofs.Common.{refl}
use Rattle.bg_text.proofs.PieceLaws.{comment_is}
use Rattle.bg_text.proofs.piece.comment.Goals as goal

pub returns : goal.returns
returns c = comment_is c.args.bytes.now c.split_at.result.1.now c.line_count.result _ c.requires.hash c.split_at.ensures.back c.line_count.ensures.value refl
