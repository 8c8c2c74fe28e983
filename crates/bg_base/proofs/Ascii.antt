-- Identifiers and texts are ASCII, so their bytes are a text.
use Rattle.std.proofs.Common.{◌≡◌, ℕ, zero, suc, ◌<◌, Bool, true, List, [], ◌∷◌, lit<, IsUtf8, arith}
use Rattle.std.proofs.lemmas.Bool.{and_parts}
use Rattle.std.proofs.lemmas.Bool.Decides.{nat_tests}
use Rattle.std.proofs.lemmas.Str.{IsUtf8-from_ascii}
use Rattle.std.specs.List.{list_all}
use Rattle.std.specs.Str.{IsAscii}
use Rattle.bg_base.specs.Spelling.{is_ident, is_text, is_letter, is_word_byte, is_text_byte}

ascii_bytes : (p : ℕ → Bool) → ((b : ℕ) → p b ≡ true → b < 128) → (bs : List ℕ) → list_all p bs ≡ true → IsAscii bs
ascii_bytes p low [] all i = lit< tt
ascii_bytes p low (b ∷ bs) all zero = low b (and_parts (p b) (list_all p bs) all).0
ascii_bytes p low (b ∷ bs) all (suc i) = ascii_bytes p low bs (and_parts (p b) (list_all p bs) all).1 i

letter_below : (b : ℕ) → is_letter b ≡ true → b < 128
letter_below b letter = grind (arith, nat_tests)

word_byte_below : (b : ℕ) → is_word_byte b ≡ true → b < 128
word_byte_below b word = grind (arith, nat_tests)

text_byte_below : (b : ℕ) → is_text_byte b ≡ true → b < 128
text_byte_below b text = grind (arith, nat_tests)

ascii_ident : (bs : List ℕ) → is_ident bs ≡ true → IsAscii bs
ascii_ident [] spelled i = lit< tt
ascii_ident (b ∷ bs) spelled zero = letter_below b (and_parts (is_letter b) (list_all is_word_byte bs) spelled).0
ascii_ident (b ∷ bs) spelled (suc i) =
    ascii_bytes is_word_byte word_byte_below bs (and_parts (is_letter b) (list_all is_word_byte bs) spelled).1 i

-- an identifier is a text of the language's strings
pub utf8_from_ident : (bs : List ℕ) → is_ident bs ≡ true → IsUtf8 bs
utf8_from_ident bs spelled = IsUtf8-from_ascii bs (ascii_ident bs spelled)

pub utf8_from_text : (bs : List ℕ) → is_text bs ≡ true → IsUtf8 bs
utf8_from_text bs spelled = IsUtf8-from_ascii bs (ascii_bytes is_text_byte text_byte_below bs spelled)
