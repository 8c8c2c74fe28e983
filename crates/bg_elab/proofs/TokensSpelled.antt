-- The tokens of a text spell what their kinds say, also by the numbers of the kinds at the leaves of a derivation tree.
use Rattle.std.proofs.Common.{◌≡◌, ℕ, ◌-◌, ◌<◌, true, false, eqb, leb, ltb, List, [], ◌∷◌, Some, is_some, length, get_or, take, drop, slice_get, refl, sym, subst, arith}
use Rattle.std.specs.List.{list_all}
use Rattle.std.specs.Char.{is_ascii_digit}
use Rattle.std.specs.Str.Parse.{digits_value}
use Rattle.bg_base.specs.Spelling.{is_ident, is_text}
use Rattle.bg_text.specs.declared.token.Token.{Token}
use Rattle.bg_text.specs.declared.token.TokenKind.{TokenKind}
use Rattle.bg_text.specs.declared.token.TokenKind.TheVariants.{Lower, Upper, Zero, One, Num, Text}
use Rattle.bg_text.specs.Spelling.{kind_of}
use Rattle.bg_text.specs.Tokens.{greatest_int, IsToken, AreTokens}
use Rattle.bg_syntax.specs.Models.{kinds}
use Rattle.bg_syntax.specs.Numbers.{kind_number}
use Rattle.bg_values.specs.Numbers.{number_in}
use Rattle.bg_values.specs.Reading.{between}
use Rattle.bg_values.specs.Scopes.{piece_of}
use Rattle.bg_elab.specs.Spellings.{Spells}
use Rattle.bg_elab.proofs.Leaves.{token_of_kind}
use Rattle.bg_elab.proofs.Spelled.{passed}
use Rattle.bg_text.proofs.TokenLaws.{small, token_at}

some_bytes : (word : List ℕ) (kind : TokenKind) → kind_of word ≡ Some kind → 0 < length word
unfolding kind_of
some_bytes [] kind e = absurd cc
some_bytes (b ∷ word) kind e = omega arith

number_there : (word : List ℕ) → 0 < length word → list_all is_ascii_digit word ≡ true → ltb greatest_int (digits_value 10 word) ≡ false
    → is_some (number_in word) ≡ true
number_there word l d h =
    let long : eqb (length word) 0 ≡ false = grind arith in
    let fits : leb (digits_value 10 word) greatest_int ≡ true = grind arith in
    rw (long, d, fits) refl

spelled_number : (bytes : List ℕ) (kind : TokenKind) (size : ℕ) → IsToken bytes kind size → list_all is_ascii_digit (take size bytes) ≡ true
    → is_some (number_in (take size bytes)) ≡ true
spelled_number bytes kind size t d =
    number_there (take size bytes) (some_bytes (take size bytes) kind t.is_longest.spelled) d (small bytes kind size t d)

-- a token spells what its kind says
spells : (bytes : List ℕ) (kind : TokenKind) (size : ℕ) → IsToken bytes kind size → Spells kind (take size bytes)
spells bytes Lower size t = passed (take size bytes) Lower t.is_longest.spelled
spells bytes Upper size t = passed (take size bytes) Upper t.is_longest.spelled
spells bytes Zero size t = spelled_number bytes Zero size t (passed (take size bytes) Zero t.is_longest.spelled)
spells bytes One size t = spelled_number bytes One size t (passed (take size bytes) One t.is_longest.spelled)
spells bytes Num size t = spelled_number bytes Num size t (passed (take size bytes) Num t.is_longest.spelled)
spells bytes Text size t = passed (take size bytes) Text t.is_longest.spelled
spells bytes kind size t = tt

pub tokens_spell : (bytes : List ℕ) (tokens : List Token) (number : ℕ) (token : Token) → AreTokens bytes tokens → slice_get tokens number ≡ Some token
    → Spells token.kind (piece_of bytes (slice_get tokens number))
tokens_spell bytes tokens number token cut at =
    subst (λ z. Spells token.kind (piece_of bytes z)) (sym at)
    (spells (drop token.start bytes) token.kind (token.end - token.start) (token_at bytes tokens number token cut at))

-- ---- the same, by the number of the kind

abbrev pub by_number : List (List ℕ → Type 0)
by_number =
    (λ bytes. is_ident bytes ≡ true) ∷ (λ bytes. is_ident bytes ≡ true) ∷ (λ bytes. is_some (number_in bytes) ≡ true)
    ∷ (λ bytes. is_some (number_in bytes) ≡ true) ∷ (λ bytes. is_some (number_in bytes) ≡ true) ∷ (λ bytes. is_text (between bytes) ≡ true) ∷ []

-- the bytes are a spelling of the kind with that number
abbrev pub KindSpells : ℕ → List ℕ → Type 0
KindSpells k bytes = get_or by_number k (λ bytes. Unit {0}) bytes

numbered : (kind : TokenKind) (bytes : List ℕ) → Spells kind bytes → KindSpells (kind_number kind) bytes
numbered Lower bytes h = h
numbered Upper bytes h = h
numbered Zero bytes h = h
numbered One bytes h = h
numbered Num bytes h = h
numbered Text bytes h = h
numbered kind bytes h = tt

-- a token of that kind spells what the kind says
pub kind_spells : (bytes : List ℕ) (tokens : List Token) → AreTokens bytes tokens → (k n : ℕ) → slice_get (kinds tokens) n ≡ Some k
    → KindSpells k (piece_of bytes (slice_get tokens n))
kind_spells bytes tokens cut k n e =
    let found = token_of_kind tokens k n e in
    subst (λ z. KindSpells z (piece_of bytes (slice_get tokens n))) found.kind_is
    (numbered found.token.kind (piece_of bytes (slice_get tokens n)) (tokens_spell bytes tokens n found.token cut found.at))
