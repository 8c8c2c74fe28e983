use Rattle.bg_text.proofs.PieceLaws.{upper_is}
use Rattle.bg_text.proofs.piece.upper_word.Goals as goal

pub returns : goal.returns
returns c = upper_is c.args.bytes.now c.word_count.result c.requires c.word_count.ensures.value
