-- Texts of numbers.
use Rattle.std.specs.Prelude.{ℕ, Bool, ◌&&◌, List, length, Option, None, Some, if◌then◌else◌, nat_lt, nat_le}
use Rattle.std.specs.List.{list_all}
use Rattle.std.specs.Char.{is_ascii_digit}
use Rattle.std.specs.Str.Parse.{digits_value}
use Rattle.bg_words.specs.declared.numbers.Numbers.{Numbers}

-- the text is one to twenty digits
abbrev pub is_number : List ℕ → Bool
is_number text = nat_lt 0 (length text) && (nat_le (length text) 20 && list_all is_ascii_digit text)

-- the number is one of these
abbrev pub is_one_of : Numbers → ℕ → Bool
is_one_of numbers number = nat_le numbers.least number && nat_le number numbers.greatest

-- the number that the text writes, where it is of that form and one of these
abbrev pub option_value : Numbers → List ℕ → Option ℕ
option_value numbers text =
    if is_number text && is_one_of numbers (digits_value 10 text) then Some (digits_value 10 text) else None
