-- The number that some digits spell.
use Rattle.std.specs.Prelude.{ℕ, ℤ, pos, nat_eq, nat_le, if◌then◌else◌, List, length, Option, Some, None}
use Rattle.std.specs.List.{list_all}
use Rattle.std.specs.Char.{is_ascii_digit}
use Rattle.std.specs.Str.Parse.{digits_value}
use Rattle.bg_text.specs.Tokens.{greatest_int}

-- the number, where it is not above the greatest
abbrev pub small_value : List ℕ → Option ℤ
small_value digits = if nat_le (digits_value 10 digits) greatest_int then Some (pos (digits_value 10 digits)) else None

-- the number that the bytes spell, where they are digits alone; no bytes spell no number
abbrev pub number_in : List ℕ → Option ℤ
number_in bytes =
    if nat_eq (length bytes) 0 then None
    else if list_all is_ascii_digit bytes then small_value bytes
    else None
