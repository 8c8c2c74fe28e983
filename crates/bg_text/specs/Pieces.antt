-- What stands in front of a text.
use Rattle.std.specs.Prelude.{ℕ, ◌<◌, ◌≤◌, Bool, ◌&&◌, ◌||◌, ◌==◌, List, slice_index}
use Rattle.std.specs.Char.{is_ascii_digit, is_ascii_lowercase, is_ascii_uppercase}
use Rattle.bg_text.specs.declared.piece.Piece.{Piece}
use Rattle.bg_text.specs.declared.piece.Piece.TheVariants.{Gap, Token, Bad}
use Rattle.bg_text.specs.Spelling.{is_space}
use Rattle.bg_text.specs.Tokens.{IsGap, IsToken, Refuses}

-- the gap, the token or the refusal that stands in front
abbrev pub IsPiece : List ℕ → Piece → Type 0
IsPiece bytes (Gap size) = IsGap bytes size
IsPiece bytes (Token kind size) = IsToken bytes kind size
IsPiece bytes (Bad code apart) = Refuses bytes code apart

-- it takes at least one byte, and no more than so many
abbrev pub IsWithin : ℕ → Piece → Type 0
IsWithin most (Gap size) = (0 < size) × (size ≤ most)
IsWithin most (Token kind size) = (0 < size) × (size ≤ most)
IsWithin most (Bad code apart) = apart < most

-- whether a gap, a text, a number or a word begins with the byte
abbrev pub begins_otherwise : ℕ → Bool
begins_otherwise byte = is_space byte || (byte == 35) || (byte == 34) || is_ascii_digit byte || is_ascii_lowercase byte || is_ascii_uppercase byte

-- `-->` stands in front
abbrev pub begins_arrow : List ℕ → Bool
begins_arrow bytes = (slice_index bytes 0 == 45) && ((slice_index bytes 1 == 45) && (slice_index bytes 2 == 62))

-- `||` stands in front
abbrev pub begins_bars : List ℕ → Bool
begins_bars bytes = (slice_index bytes 0 == 124) && (slice_index bytes 1 == 124)
