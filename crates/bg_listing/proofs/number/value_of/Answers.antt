use Rattle.std.proofs.Common.{◌+◌, arith}
use Rattle.std.proofs.lemmas.Int.Digits.{digits_value_more}
use Rattle.std.proofs.lemmas.Str.Parse.{digits_value-take-le}
use Rattle.bg_listing.proofs.number.value_of.Goals as goal

pub returns-then-value-gt-LARGEST_BEFORE_A_DIGIT : goal.returns-then-value-gt-LARGEST_BEFORE_A_DIGIT
returns-then-value-gt-LARGEST_BEFORE_A_DIGIT c =
    omega (arith, digits_value_more 10 c.args.digits.now c.loop-digit.digit-index c.loop-digit-test.true, digits_value-take-le 10 c.args.digits.now (c.loop-digit.digit-index + 1) (omega arith))

pub returns-then-value-most : goal.returns-then-value-most
returns-then-value-most c =
    omega (arith, digits_value_more 10 c.args.digits.now c.loop-digit.digit-index c.loop-digit-test.true, digits_value-take-le 10 c.args.digits.now (c.loop-digit.digit-index + 1) (omega arith), c.digit_of.ensures.value, c.from.ensures)

pub loop-digit-preserved : goal.loop-digit-preserved
loop-digit-preserved c =
    (omega (arith, digits_value_more 10 c.args.digits.now c.loop-digit.digit-index c.loop-digit-test.true, c.digit_of.ensures.value, c.from.ensures), c.if-value-most.false)
