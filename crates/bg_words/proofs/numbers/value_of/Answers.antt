-- What std's `parse` says of a text of digits.
use Rattle.std.proofs.Common.{◌≡◌, ◌≤◌, ◌<◌, ◌^◌, ◌⊎◌, ℕ, List, Result, Ok, Err, true, length, rules, inl, inr, subst, sym}
use Rattle.std.specs.List.{list_all}
use Rattle.std.specs.Option.{MatchOption}
use Rattle.std.specs.Char.{is_ascii_digit}
use Rattle.std.specs.Result.{OkIff, result_ok}
use Rattle.std.specs.Str.Parse.{digits_value}
use Rattle.std.proofs.lemmas.Str.Parse.{IsNumeralModel, numerals_by_value, parse_digits}
use Rattle.bg_words.proofs.numbers.value_of.Goals as goal

digits : IsNumeralModel (λ text. list_all is_ascii_digit text ≡ true) (digits_value 10)
digits = numerals_by_value _ (search rules)

-- digits are refused only where their value is too large
read : {E : Type 0} (text : List ℕ) (r : Result ℕ E) → OkIff r ((0 < length text) × (digits_value 10 text < 2 ^ 64)) (digits_value 10 text) → 0 < length text
    → MatchOption (result_ok r) (2 ^ 64 ≤ digits_value 10 text) (λ number. number ≡ digits_value 10 text)
read text (Ok n) parsed long = parsed.1
read text (Err e) parsed long = elim (below_or_not (digits_value 10 text)) as (λ _. 2 ^ 64 ≤ digits_value 10 text) [
  | inl below ↦ absurd (parsed (long, below))
  | inr above ↦ above
]
  where
    below_or_not : (n : ℕ) → (n < 2 ^ 64) ⊎ (2 ^ 64 ≤ n)
    below_or_not n = search rules

pub returns : goal.returns
returns c =
    let text = c.args.digits.now in
    let long : 0 < length text = search rules in
    let all : list_all is_ascii_digit text ≡ true = search rules in
    subst (λ number. MatchOption number (2 ^ 64 ≤ digits_value 10 text) (λ n. n ≡ digits_value 10 text)) (sym c.ok.ensures.value)
    (read text c.parse.result (parse_digits digits 64 text _ c.parse.ensures.value.0 all) long)
