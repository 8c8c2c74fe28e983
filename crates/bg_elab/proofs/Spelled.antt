-- What the bytes of a token spell, by its kind.
use Rattle.std.proofs.Common.{◌≡◌, ℕ, suc, ◌-◌, Bool, true, false, ◌&&◌, cond, eqb, List, [], ◌∷◌, Option, Some, None, length, take, codes, refl, ap, subst, ◌∙◌, arith}
use Rattle.std.specs.List.{list_all}
use Rattle.std.specs.Char.{is_ascii_digit, is_ascii_lowercase, is_ascii_uppercase}
use Rattle.std.proofs.lemmas.Bool.{and_parts}
use Rattle.bg_base.specs.Spelling.{is_ident, is_text}
use Rattle.bg_base.specs.Spelling.{is_letter, is_word_byte as is_name_byte}
use Rattle.bg_text.specs.declared.token.TokenKind.{TokenKind}
use Rattle.bg_text.specs.declared.token.TokenKind.TheVariants.{Lower, Upper, Zero, One, Num, Text, KwAtomic, KwBegin, KwBig, KwBrs, KwCtrl, KwCtx, KwEnd, KwFun, KwId, KwIf, KwIn, KwInit, KwInt, KwMerge, KwParam, KwPreds, KwReact, KwRules, KwString, Arrow, BarBar, Bar, Plus, Minus, Star, Slash, Dot, Comma, Semicolon, Colon, Equals, OpenBrace, CloseBrace, OpenRound, CloseRound, OpenSquare, CloseSquare, At, Bang}
use Rattle.bg_text.specs.Spelling.{is_word_byte, is_text_byte, ends_with_quote, same, lower_kind, later_kind, number_kind, mark, symbol, only, kind_of}
use Rattle.bg_text.specs.Tokens.{token}
use Rattle.bg_values.specs.Reading.{between}

-- what the bytes of a token of this kind pass; a number is judged further below
abbrev pub Passes : TokenKind → List ℕ → Type 0
Passes Lower word = is_ident word ≡ true
Passes Upper word = is_ident word ≡ true
Passes Zero word = list_all is_ascii_digit word ≡ true
Passes One word = list_all is_ascii_digit word ≡ true
Passes Num word = list_all is_ascii_digit word ≡ true
Passes Text word = is_text (between word) ≡ true
Passes kind word = Unit {0}

-- the same as a record, whose arguments are found
record IsPassed (kind : TokenKind) (word : List ℕ) : Type 0 where
  passes : Passes kind word

-- where there is a kind at all
record IsPassedIf (found : Option TokenKind) (word : List ℕ) : Type 0 where
  passes : (kind : TokenKind) → found ≡ Some kind → Passes kind word

passing : {kind : TokenKind} {word : List ℕ} → Passes kind word → IsPassed kind word
passing x = record { passes = x }

either : {kind other : TokenKind} {word : List ℕ} (v : Bool) → IsPassed kind word → IsPassed other word → IsPassed (cond v kind other) word
either true x y = x
either false x y = y

same_kind : (kind other : TokenKind) → ◌≡◌ {A = Option TokenKind} (Some kind) (Some other) → kind ≡ other
same_kind kind other e = cc

found : {kind : TokenKind} {word : List ℕ} → IsPassed kind word → IsPassedIf (Some kind) word
found {kind} {word} x = record { passes = λ other e. subst (λ z. Passes z word) (same_kind kind other e) x.passes }

missed : {word : List ℕ} → IsPassedIf None word
missed = record { passes = λ kind e. absurd cc }

either_if : {one other : Option TokenKind} {word : List ℕ} (v : Bool) → (v ≡ true → IsPassedIf one word) → (v ≡ false → IsPassedIf other word)
    → IsPassedIf (cond v one other) word
either_if true x y = x refl
either_if false x y = y refl

only_passed : {word : List ℕ} (v : Bool) (kind : TokenKind) → (v ≡ true → IsPassed kind word) → IsPassedIf (only v kind) word
only_passed true kind x = found (x refl)
only_passed false kind x = missed

-- ---- words

name_byte : (b : ℕ) → is_word_byte b ≡ true → is_name_byte b ≡ true
name_byte b e = grind arith

name_bytes : (word : List ℕ) → list_all is_word_byte word ≡ true → list_all is_name_byte word ≡ true
name_bytes [] e = refl
name_bytes (b ∷ word) e =
    let both = and_parts (is_word_byte b) (list_all is_word_byte word) e in
    ap (λ v. v && list_all is_name_byte word) (name_byte b both.0) ∙ name_bytes word both.1

lower_letter : (b : ℕ) → is_ascii_lowercase b ≡ true → is_letter b ≡ true
lower_letter b e = grind arith

upper_letter : (b : ℕ) → is_ascii_uppercase b ≡ true → is_letter b ≡ true
upper_letter b e = grind arith

word_is : (b : ℕ) (word : List ℕ) → is_letter b ≡ true → list_all is_word_byte (b ∷ word) ≡ true → is_ident (b ∷ word) ≡ true
word_is b word e f =
    let both = and_parts (is_word_byte b) (list_all is_word_byte word) f in
    ap (λ v. v && list_all is_name_byte word) e ∙ name_bytes word both.1

later_passed : (word : List ℕ) → is_ident word ≡ true → IsPassed (later_kind word) word
unfolding later_kind
later_passed word e =
    either (same word (codes "in")) (passing {kind = KwIn} tt) (
    either (same word (codes "init")) (passing {kind = KwInit} tt) (
    either (same word (codes "int")) (passing {kind = KwInt} tt) (
    either (same word (codes "merge")) (passing {kind = KwMerge} tt) (
    either (same word (codes "param")) (passing {kind = KwParam} tt) (
    either (same word (codes "preds")) (passing {kind = KwPreds} tt) (
    either (same word (codes "react")) (passing {kind = KwReact} tt) (
    either (same word (codes "rules")) (passing {kind = KwRules} tt) (
    either (same word (codes "string")) (passing {kind = KwString} tt) (
    passing {kind = Lower} e)))))))))

lower_passed : (word : List ℕ) → is_ident word ≡ true → IsPassed (lower_kind word) word
unfolding lower_kind
lower_passed word e =
    either (same word (codes "atomic")) (passing {kind = KwAtomic} tt) (
    either (same word (codes "begin")) (passing {kind = KwBegin} tt) (
    either (same word (codes "big")) (passing {kind = KwBig} tt) (
    either (same word (codes "brs")) (passing {kind = KwBrs} tt) (
    either (same word (codes "ctrl")) (passing {kind = KwCtrl} tt) (
    either (same word (codes "ctx")) (passing {kind = KwCtx} tt) (
    either (same word (codes "end")) (passing {kind = KwEnd} tt) (
    either (same word (codes "fun")) (passing {kind = KwFun} tt) (
    either (same word (codes "id")) (passing {kind = KwId} tt) (
    either (same word (codes "if")) (passing {kind = KwIf} tt) (
    later_passed word e))))))))))

-- ---- numbers

number_passed : (word : List ℕ) → list_all is_ascii_digit word ≡ true → IsPassed (number_kind word) word
number_passed [] e = passing e
number_passed (b ∷ []) e = either (eqb b 48) (passing {kind = Zero} e) (either (eqb b 49) (passing {kind = One} e) (passing {kind = Num} e))
number_passed (b ∷ c ∷ word) e = passing e

-- ---- texts

text_bytes : (bytes : List ℕ) → ends_with_quote bytes ≡ true → is_text (take (length bytes - 1) bytes) ≡ true
text_bytes [] e = absurd cc
text_bytes (b ∷ []) e = refl
text_bytes (b ∷ c ∷ bytes) e =
    let both = and_parts (is_text_byte b) (ends_with_quote (c ∷ bytes)) e in
    let less : length (b ∷ c ∷ bytes) - 1 ≡ suc (length (c ∷ bytes) - 1) = omega arith in
    rw less (ap (λ v. v && is_text (take (length (c ∷ bytes) - 1) (c ∷ bytes))) both.0 ∙ text_bytes (c ∷ bytes) both.1)

text_is : (b : ℕ) (bytes : List ℕ) → ends_with_quote bytes ≡ true → is_text (between (b ∷ bytes)) ≡ true
text_is b bytes e =
    let less : length (b ∷ bytes) - 2 ≡ length bytes - 1 = omega arith in rw less (text_bytes bytes e)

-- ---- symbols

mark_passed : (b : ℕ) (word : List ℕ) → IsPassedIf (mark b) word
unfolding mark
mark_passed b word =
    either_if (eqb b 124) (λ e. found (passing {kind = Bar} tt)) (λ e.
    either_if (eqb b 43) (λ e. found (passing {kind = Plus} tt)) (λ e.
    either_if (eqb b 45) (λ e. found (passing {kind = Minus} tt)) (λ e.
    either_if (eqb b 42) (λ e. found (passing {kind = Star} tt)) (λ e.
    either_if (eqb b 47) (λ e. found (passing {kind = Slash} tt)) (λ e.
    either_if (eqb b 46) (λ e. found (passing {kind = Dot} tt)) (λ e.
    either_if (eqb b 44) (λ e. found (passing {kind = Comma} tt)) (λ e.
    either_if (eqb b 59) (λ e. found (passing {kind = Semicolon} tt)) (λ e.
    either_if (eqb b 58) (λ e. found (passing {kind = Colon} tt)) (λ e.
    either_if (eqb b 61) (λ e. found (passing {kind = Equals} tt)) (λ e.
    either_if (eqb b 123) (λ e. found (passing {kind = OpenBrace} tt)) (λ e.
    either_if (eqb b 125) (λ e. found (passing {kind = CloseBrace} tt)) (λ e.
    either_if (eqb b 40) (λ e. found (passing {kind = OpenRound} tt)) (λ e.
    either_if (eqb b 41) (λ e. found (passing {kind = CloseRound} tt)) (λ e.
    either_if (eqb b 91) (λ e. found (passing {kind = OpenSquare} tt)) (λ e.
    either_if (eqb b 93) (λ e. found (passing {kind = CloseSquare} tt)) (λ e.
    either_if (eqb b 64) (λ e. found (passing {kind = At} tt)) (λ e.
    either_if (eqb b 33) (λ e. found (passing {kind = Bang} tt)) (λ e.
    missed))))))))))))))))))

symbol_passed : (word : List ℕ) → IsPassedIf (symbol word) word
symbol_passed [] = missed
symbol_passed (a ∷ []) = mark_passed a (a ∷ [])
symbol_passed (a ∷ b ∷ []) = either_if (eqb a 124 && eqb b 124) (λ e. found (passing {kind = BarBar} tt)) (λ e. missed)
symbol_passed (a ∷ b ∷ c ∷ []) = either_if (eqb a 45 && (eqb b 45 && eqb c 62)) (λ e. found (passing {kind = Arrow} tt)) (λ e. missed)
symbol_passed (a ∷ b ∷ c ∷ d ∷ word) = missed

-- ---- any token

kind_passed : (word : List ℕ) → IsPassedIf (kind_of word) word
unfolding kind_of
kind_passed [] = missed
kind_passed (b ∷ word) =
    either_if (is_ascii_lowercase b) (λ l. only_passed (list_all is_word_byte (b ∷ word)) (lower_kind (b ∷ word)) (λ e. lower_passed (b ∷ word) (word_is b word (lower_letter b l) e))) (λ l.
    either_if (is_ascii_uppercase b) (λ u. only_passed (list_all is_word_byte (b ∷ word)) Upper (λ e. passing (word_is b word (upper_letter b u) e))) (λ u.
    either_if (is_ascii_digit b) (λ d. only_passed (list_all is_ascii_digit (b ∷ word)) (number_kind (b ∷ word)) (λ e. number_passed (b ∷ word) e)) (λ d.
    either_if (eqb b 34) (λ q. only_passed (ends_with_quote word) Text (λ e. passing (text_is b word e))) (λ q. symbol_passed (b ∷ word)))))

-- bytes pass what their kind asks
pub passed : (word : List ℕ) (kind : TokenKind) → kind_of word ≡ Some kind → Passes kind word
passed word kind e = (kind_passed word).passes kind e
