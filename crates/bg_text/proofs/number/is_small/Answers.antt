use Rattle.std.proofs.Common.{◌≡◌, ◌+◌, ◌<◌, ℕ, false, leb, arith}
use Rattle.std.specs.Str.Parse.{digits_value}
use Rattle.std.proofs.lemmas.Int.Digits.{digits_value_more}
use Rattle.std.proofs.lemmas.Str.Parse.{digits_value-take-le}
use Rattle.bg_text.specs.Tokens.{greatest_int}
use Rattle.bg_text.proofs.number.is_small.Goals as goal

above : (n : ℕ) → greatest_int < n → false ≡ leb n greatest_int
above n l = grind arith

pub returns-then-value-gt-LARGEST_BEFORE_A_DIGIT : goal.returns-then-value-gt-LARGEST_BEFORE_A_DIGIT
returns-then-value-gt-LARGEST_BEFORE_A_DIGIT c =
    above (digits_value 10 c.args.digits.now) (omega (arith, digits_value_more 10 c.args.digits.now c.loop-digit.digit-index c.loop-digit-test.true, digits_value-take-le 10 c.args.digits.now (c.loop-digit.digit-index + 1) (omega arith)))

pub returns-then-value-gt-GREATEST : goal.returns-then-value-gt-GREATEST
returns-then-value-gt-GREATEST c =
    above (digits_value 10 c.args.digits.now) (omega (arith, digits_value_more 10 c.args.digits.now c.loop-digit.digit-index c.loop-digit-test.true, digits_value-take-le 10 c.args.digits.now (c.loop-digit.digit-index + 1) (omega arith), c.digit_of.ensures.value, c.from.ensures))

pub loop-digit-preserved : goal.loop-digit-preserved
loop-digit-preserved c =
    (omega (arith, digits_value_more 10 c.args.digits.now c.loop-digit.digit-index c.loop-digit-test.true, c.digit_of.ensures.value, c.from.ensures), c.if-value-gt-GREATEST.false)
