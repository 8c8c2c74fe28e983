use Rattle.std.proofs.Common.{sym, refl}
use Rattle.bg_text.proofs.PieceLaws.{open_refused, bad_text_refused, text_is}
use Rattle.bg_text.proofs.text.text.Goals as goal

pub returns-else-is_quote_at : goal.returns-else-is_quote_at
returns-else-is_quote_at c = open_refused c.args.bytes.now c.split_at.result.1.now c.inside_count-inside.result c.requires.quote c.split_at.ensures.back c.inside_count-inside.ensures.value (sym c.if-is_quote_at.ensures)

pub returns-then-good-inside : goal.returns-then-good-inside
returns-then-good-inside c = bad_text_refused c.args.bytes.now c.split_at.result.1.now c.inside_count-inside.result c.text_byte_count-good.result _ c.requires.quote c.split_at.ensures.back c.inside_count-inside.ensures.value (sym c.if-is_quote_at.ensures) c.text_byte_count-good.ensures.value c.if-good-inside.true refl

pub returns-else-good-inside : goal.returns-else-good-inside
returns-else-good-inside c = text_is c.args.bytes.now c.split_at.result.1.now c.inside_count-inside.result c.text_byte_count-good.result _ c.requires.quote c.split_at.ensures.back c.inside_count-inside.ensures.value (sym c.if-is_quote_at.ensures) c.text_byte_count-good.ensures.value c.if-good-inside.false refl
