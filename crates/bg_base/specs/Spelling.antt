-- How words are spelled, byte by byte.
use Rattle.std.specs.Prelude.{ℕ, Bool, false, ◌&&◌, ◌||◌, not, nat_le, ◌==◌, List, [], ◌∷◌}
use Rattle.std.specs.List.{list_all}

-- an ASCII letter from `A` to `Z`
abbrev pub is_upper_case : ℕ → Bool
is_upper_case byte = nat_le 65 byte && nat_le byte 90

-- an ASCII letter from `a` to `z`
abbrev pub is_lower_case : ℕ → Bool
is_lower_case byte = nat_le 97 byte && nat_le byte 122

-- an ASCII digit
abbrev pub is_digit : ℕ → Bool
is_digit byte = nat_le 48 byte && nat_le byte 57

-- an ASCII letter
abbrev pub is_letter : ℕ → Bool
is_letter byte = is_upper_case byte || is_lower_case byte

-- a letter, a digit, `_` or `'`
abbrev pub is_word_byte : ℕ → Bool
is_word_byte byte = is_letter byte || is_digit byte || (byte == 95) || (byte == 39)

-- an identifier: a letter, then letters, digits, `_` and `'`
abbrev pub is_ident : List ℕ → Bool
is_ident [] = false
is_ident (first ∷ rest) = is_letter first && list_all is_word_byte rest

-- a printable ASCII byte, the space among them, other than `"`
abbrev pub is_text_byte : ℕ → Bool
is_text_byte byte = nat_le 32 byte && nat_le byte 126 && not (byte == 34)

-- a text as it stands between quotes
abbrev pub is_text : List ℕ → Bool
is_text bytes = list_all is_text_byte bytes
