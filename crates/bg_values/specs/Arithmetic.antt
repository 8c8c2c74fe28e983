-- Formulas of numbers and texts, and what they come to.
use Rattle.std.specs.Prelude.{ℕ, ℤ, pos, negsuc, ◌+ℤ◌, ◌-ℤ◌, ◌*ℤ◌, neg_ℤ, int_div, int_lt, ◌||◌, if◌then◌else◌, List, Result, Ok, slice_get}
use Rattle.std.specs.Ordering.{int_eq}
use Rattle.bg_base.specs.declared.labels.Value.{Value}
use Rattle.bg_base.specs.declared.labels.Value.TheVariants.{Int, Words}
use Rattle.bg_values.specs.declared.formula.Operator.{Operator}
use Rattle.bg_values.specs.declared.formula.Operator.TheVariants.{Add, Subtract, Multiply, Divide}
use Rattle.bg_values.specs.declared.refusal.Refusal.{Refusal}
use Rattle.bg_values.specs.declared.refusal.Cause.TheVariants.{UnknownName, NumberOverflow, ZeroDivisor, WrongKind}
use Rattle.bg_values.specs.Outcome.{◌>>=◌, refused, there_or}

-- a formula; `at` is the token of a name or an operator, and an operand stands behind its first token
pub data Formula : Type 0 where
  whole : ℤ → Formula
  words : List ℕ → Formula
  name : ℕ → ℕ → Formula
  negation : ℕ → ℕ → Formula → Formula
  operation : Operator → ℕ → ℕ → Formula → ℕ → Formula → Formula

-- a whole number of 64 bits with sign
abbrev pub ranged : ℕ → ℤ → Result ℤ Refusal
ranged at z =
    if int_lt z (negsuc 9223372036854775807) || int_lt (pos 9223372036854775807) z then refused NumberOverflow at else Ok z

-- the number with the other sign
abbrev pub negated : ℕ → ℤ → Result ℤ Refusal
negated at x = ranged at (neg_ℤ x)

-- the operator at that token, of two whole numbers; a quotient is cut towards zero
abbrev pub applied : Operator → ℕ → ℤ → ℤ → Result ℤ Refusal
applied Add at x y = ranged at (x +ℤ y)
applied Subtract at x y = ranged at (x -ℤ y)
applied Multiply at x y = ranged at (x *ℤ y)
applied Divide at x y = if int_eq y (pos 0) then refused ZeroDivisor at else ranged at (int_div x y)

-- the whole number that an operand is, whose first token stands there
abbrev pub whole_of : ℕ → Value → Result ℤ Refusal
whole_of first (Int z) = Ok z
whole_of first (Words text) = refused WrongKind first

-- what a formula comes to, where the visible names have these values; operands go from left to right, then the operator
abbrev pub value : List Value → Formula → Result Value Refusal
value env (whole z) = Ok (Int z)
value env (words text) = Ok (Words text)
value env (name at number) = there_or UnknownName at (slice_get env number)
value env (negation at first f) =
    value env f >>= λ v. whole_of first v >>= λ x. negated at x >>= λ z. Ok (Int z)
value env (operation operator at first f second g) =
    value env f >>= λ v. value env g >>= λ w. whole_of first v >>= λ x. whole_of second w >>= λ y.
    applied operator at x y >>= λ z. Ok (Int z)
