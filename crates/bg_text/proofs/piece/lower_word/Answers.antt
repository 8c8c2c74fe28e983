use Rattle.std.proofs.Common.{refl}
use Rattle.bg_text.proofs.PieceLaws.{lower_is}
use Rattle.bg_text.proofs.piece.lower_word.Goals as goal

pub returns : goal.returns
returns c = lower_is c.args.bytes.now c.split_at.result.0.now _ c.word_count.result _ c.requires c.word_count.ensures.value c.split_at.ensures.front c.lower_kind.ensures refl
