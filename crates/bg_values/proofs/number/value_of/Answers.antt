use Rattle.std.proofs.Common.{◌≡◌, ◌+◌, ◌<◌, ◌≤◌, ℕ, ℤ, pos, true, false, cond, leb, Option, Some, None, ap, ◌∙◌, take, arith, w64}
use Rattle.std.proofs.lemmas.List.{take_all}
use Rattle.std.proofs.lemmas.Int.{to_z_pos}
use Rattle.std.specs.Str.Parse.{digits_value}
use Rattle.std.proofs.lemmas.Int.Digits.{digits_value_more}
use Rattle.std.proofs.lemmas.Str.Parse.{digits_value-take-le}
use Rattle.bg_text.specs.Tokens.{greatest_int}
use Rattle.bg_values.proofs.number.value_of.Goals as goal

above : (n : ℕ) → greatest_int < n → false ≡ leb n greatest_int
above n l = grind arith

within : (n : ℕ) → n ≤ greatest_int → true ≡ leb n greatest_int
within n l = grind arith

none_above : (n : ℕ) → greatest_int < n → ◌≡◌ {A = Option ℤ} None (cond (leb n greatest_int) (Some (pos n)) None)
none_above n l = ap (λ b. cond b (Some (pos n)) None) (above n l)

some_within : (n : ℕ) → n ≤ greatest_int → Some (pos n) ≡ cond (leb n greatest_int) (Some (pos n)) None
some_within n l = ap (λ b. cond b (Some (pos n)) None) (within n l)

pub returns-then-value-gt-LARGEST_BEFORE_A_DIGIT : goal.returns-then-value-gt-LARGEST_BEFORE_A_DIGIT
returns-then-value-gt-LARGEST_BEFORE_A_DIGIT c =
    none_above (digits_value 10 c.args.digits.now) (omega (arith, digits_value_more 10 c.args.digits.now c.loop-digit.digit-index c.loop-digit-test.true, digits_value-take-le 10 c.args.digits.now (c.loop-digit.digit-index + 1) (omega arith)))

pub returns-then-value-gt-GREATEST : goal.returns-then-value-gt-GREATEST
returns-then-value-gt-GREATEST c =
    none_above (digits_value 10 c.args.digits.now) (omega (arith, digits_value_more 10 c.args.digits.now c.loop-digit.digit-index c.loop-digit-test.true, digits_value-take-le 10 c.args.digits.now (c.loop-digit.digit-index + 1) (omega arith), c.digit_of.ensures.value, c.from.ensures))

pub loop-digit-preserved : goal.loop-digit-preserved
loop-digit-preserved c =
    (omega (arith, digits_value_more 10 c.args.digits.now c.loop-digit.digit-index c.loop-digit-test.true, c.digit_of.ensures.value, c.from.ensures), c.if-value-gt-GREATEST.false)

pub returns : goal.returns
returns c =
    let digits = c.args.digits.now in
    let whole : take c.loop-digit.digit-index digits ≡ digits = take_all c.loop-digit.digit-index digits c.loop-digit-test.false in
    let value_is : c.loop-digit.value ≡ digits_value 10 digits = c.loop-digit.invariant.0 ∙ ap (digits_value 10) whole in
    ap Some (to_z_pos w64 c.loop-digit.value (omega (arith, c.loop-digit.invariant.1))) ∙ ap (λ n. Some (pos n)) value_is
    ∙ some_within (digits_value 10 digits) (omega (arith, value_is, c.loop-digit.invariant.1))
