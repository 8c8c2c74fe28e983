use Rattle.std.proofs.Common.{sym, refl}
use Rattle.std.specs.Char.{is_ascii_digit}
use Rattle.bg_text.proofs.RunLaws.{run_passes}
use Rattle.bg_text.proofs.PieceLaws.{decimal_refused, large_refused, number_is}
use Rattle.bg_text.proofs.number.number.Goals as goal

pub is_small-requires : goal.is_small-requires
is_small-requires c = rw (c.split_at.ensures.front, c.digit_count.ensures.value) (run_passes is_ascii_digit c.args.bytes.now)

pub returns-then-is_decimal : goal.returns-then-is_decimal
returns-then-is_decimal c = decimal_refused c.args.bytes.now c.split_at.result.0.now c.split_at.result.1.now c.digit_count.result c.requires c.digit_count.ensures.value c.split_at.ensures.front c.split_at.ensures.back (sym c.if-is_decimal.ensures)

pub returns-then-is_small : goal.returns-then-is_small
returns-then-is_small c = number_is c.args.bytes.now c.split_at.result.0.now c.split_at.result.1.now _ c.digit_count.result _ c.requires c.digit_count.ensures.value c.split_at.ensures.front c.split_at.ensures.back (sym c.if-is_decimal.ensures) (sym c.if-is_small.ensures) c.number_kind.ensures refl

pub returns-else-is_small : goal.returns-else-is_small
returns-else-is_small c = large_refused c.args.bytes.now c.split_at.result.0.now c.split_at.result.1.now c.digit_count.result c.requires c.digit_count.ensures.value c.split_at.ensures.front c.split_at.ensures.back (sym c.if-is_decimal.ensures) (sym c.if-is_small.ensures)
