-- What a text is cut into.
use Rattle.std.specs.Prelude.{◌≡◌, ◌≢◌, ℕ, suc, ◌+◌, ◌<◌, ◌≤◌, Bool, true, not, ◌&&◌, ◌==◌, nat_lt, if◌then◌else◌, List, [], ◌∷◌, Some, None, length, take, drop, slice_index}
use Rattle.std.specs.List.{prefix_len}
use Rattle.std.specs.Char.{is_ascii_digit}
use Rattle.std.specs.Str.Parse.{digits_value}
use Rattle.bg_text.specs.declared.token.TokenKind.{TokenKind}
use Rattle.bg_text.specs.declared.token.Token.{Token}
use Rattle.bg_text.specs.Spelling.{is_space, is_text_byte, kind_of}

-- a byte other than a line feed
abbrev pub is_not_line_feed : ℕ → Bool
is_not_line_feed byte = not (byte == 10)

-- a byte between an opening quote and the end of its line or its closing quote
abbrev pub is_inside : ℕ → Bool
is_inside byte = not (byte == 34) && not (byte == 10)

-- one byte of white space, or a comment, which goes to before the next line feed
pub data IsGap : List ℕ → ℕ → Type 0 where
  space : {b : ℕ} {bytes : List ℕ} → is_space b ≡ true → IsGap (b ∷ bytes) 1
  comment : {b : ℕ} {bytes : List ℕ} → b ≡ 35 → IsGap (b ∷ bytes) (suc (prefix_len is_not_line_feed bytes))

-- the first `size` bytes spell a token of this kind, and no more bytes from there on spell a token
pub record IsLongest (bytes : List ℕ) (kind : TokenKind) (size : ℕ) : Type 0 where
  pub inside : size ≤ length bytes
  pub spelled : kind_of (take size bytes) ≡ Some kind
  pub longest : (more : ℕ) → size < more → more ≤ length bytes → kind_of (take more bytes) ≡ None

-- whether behind a run of digits a dot and a digit follow at once
abbrev pub is_decimal : List ℕ → Bool
is_decimal behind = (slice_index behind 0 == 46) && is_ascii_digit (slice_index behind 1)

-- the greatest number, 2 ^ 63 - 1
abbrev pub greatest_int : ℕ
greatest_int = 9223372036854775807

-- the code of a run of digits and what follows: 24 of a decimal number, 23 of one that is too great; else 0
abbrev pub fault_of_digits : List ℕ → List ℕ → ℕ
fault_of_digits digits behind = if is_decimal behind then 24 else (if nat_lt greatest_int (digits_value 10 digits) then 23 else 0)

-- the code of the whole run of digits in front; 0 where it has none, and where no digit stands in front
unfoldable pub number_fault : List ℕ → ℕ
number_fault [] = 0
number_fault (b ∷ bytes) =
    if is_ascii_digit b then fault_of_digits (take (prefix_len is_ascii_digit (b ∷ bytes)) (b ∷ bytes)) (drop (prefix_len is_ascii_digit (b ∷ bytes)) (b ∷ bytes)) else 0

-- the longest token in front, and no number that is refused
pub record IsToken (bytes : List ℕ) (kind : TokenKind) (size : ℕ) : Type 0 where
  pub is_longest : IsLongest bytes kind size
  pub number : number_fault bytes ≡ 0

-- the text in front is refused with this code; the refused place is so many bytes behind the first one
pub data Refuses : List ℕ → ℕ → ℕ → Type 0 where
  bad_byte : {b : ℕ} {bytes : List ℕ} → ((size : ℕ) → IsGap (b ∷ bytes) size → ⊥) → ((word : List ℕ) → kind_of (b ∷ word) ≡ None) → Refuses (b ∷ bytes) 21 0
  bad_in_text : {b : ℕ} {bytes : List ℕ} → b ≡ 34 → slice_index bytes (prefix_len is_inside bytes) ≡ 34 → prefix_len is_text_byte bytes < prefix_len is_inside bytes
      → Refuses (b ∷ bytes) 21 (suc (prefix_len is_text_byte bytes))
  open_text : {b : ℕ} {bytes : List ℕ} → b ≡ 34 → slice_index bytes (prefix_len is_inside bytes) ≢ 34 → Refuses (b ∷ bytes) 22 0
  bad_number : {code : ℕ} {bytes : List ℕ} → 0 < code → number_fault bytes ≡ code → Refuses bytes code 0

-- from place n on, the bytes are cut into gaps and these tokens up to place m, where `left` is left
pub data Cuts : ℕ → List ℕ → List Token → ℕ → List ℕ → Type 0 where
  stop : {n : ℕ} {bytes : List ℕ} → Cuts n bytes [] n bytes
  gap : {n m : ℕ} {bytes left : List ℕ} {tokens : List Token} → (size : ℕ) → IsGap bytes size → Cuts (n + size) (drop size bytes) tokens m left → Cuts n bytes tokens m left
  token : {n m : ℕ} {bytes left : List ℕ} {tokens : List Token} → (kind : TokenKind) (size : ℕ) → IsToken bytes kind size
      → Cuts (n + size) (drop size bytes) tokens m left → Cuts n bytes (record { kind = kind; start = n; end = n + size } ∷ tokens) m left

-- these are the tokens of the whole text
abbrev pub AreTokens : List ℕ → List Token → Type 0
AreTokens bytes tokens = Cuts 0 bytes tokens (length bytes) []

-- the text is cut into tokens up to a place, and what is left there is refused
pub record IsRefusal (bytes : List ℕ) (code offset : ℕ) : Type 0 where
  pub tokens : List Token
  pub place : ℕ
  pub left : List ℕ
  pub apart : ℕ
  pub cut : Cuts 0 bytes tokens place left
  pub refused : Refuses left code apart
  pub offset_is : offset ≡ place + apart
