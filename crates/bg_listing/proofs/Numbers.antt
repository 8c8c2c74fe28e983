-- The laws of numbers and words.
use Rattle.std.proofs.Common.{◌≡◌, ℕ, zero, suc, ◌<◌, ◌≤◌, ◌^◌, Bool, true, false, not, ◌&&◌, ◌||◌, eqb, leb, ltb, List, [], ◌∷◌, length, get_or, refl, sym, arith}
use Rattle.std.specs.List.{list_all}
use Rattle.std.specs.Char.{is_ascii_digit}
use Rattle.std.specs.Fmt.{decimal}
use Rattle.std.specs.Str.Parse.{AllDigits, digits_value}
use Rattle.std.proofs.lemmas.Bool.{and_parts, and_from, leb-true, le-leb}
use Rattle.std.proofs.lemmas.Fmt.{decimal-digits_value, digits_value-decimal, digits_decimal, decimal_nonempty, decimal_digit, first_decimal}
use Rattle.std.proofs.lemmas.Str.Parse.{IsNumeralModel, numerals_by_value, tells_digits, digit_from_value}
use Rattle.std.specs.Char.{digit_value}
use Rattle.bg_base.specs.Spelling.{is_word_byte, is_letter, is_lower_case, is_upper_case, is_ident}
use Rattle.bg_listing.specs.Limits.{begins, IsWord}
use Rattle.bg_listing.specs.Reading.{not_there, is_numeral, is_numeral_up_to, number_at, word_at}
use Rattle.bg_listing.proofs.Combinators.{Reads, IsNoMore, run_reads, only_if_reads, as_reads, next_reads}

-- no part of a line goes on here: no letter, digit, `_`, `'` and no opening bracket stands in front
abbrev pub stops : List ℕ → Bool
stops [] = true
stops (b ∷ bytes) = not (is_word_byte b) && not (eqb b 40)

abbrev pub IsEnded : List ℕ → Type 0
IsEnded rest = stops rest ≡ true

no_word : (b : ℕ) → (not (is_word_byte b) && not (eqb b 40)) ≡ true → is_word_byte b ≡ false
no_word b e = grind arith

no_digit : (b : ℕ) → (not (is_word_byte b) && not (eqb b 40)) ≡ true → is_ascii_digit b ≡ false
no_digit b e = grind arith

pub ended_word : (rest : List ℕ) → IsEnded rest → IsNoMore is_word_byte rest
ended_word [] e = refl
ended_word (b ∷ rest) e = rw (no_word b e) refl

pub ended_digits : (rest : List ℕ) → IsEnded rest → IsNoMore is_ascii_digit rest
ended_digits [] e = refl
ended_digits (b ∷ rest) e = rw (no_digit b e) refl

-- ---- numbers

pub own : IsNumeralModel (AllDigits 10) (digits_value 10)
own = numerals_by_value (AllDigits 10) tells_digits

digit_is : (b : ℕ) → is_ascii_digit b ≡ true → digit_value b < 10
digit_is b e = grind arith

is_digit : (b : ℕ) → 48 ≤ b → b ≤ 57 → is_ascii_digit b ≡ true
is_digit b l h = grind arith

pub all_digits : (ds : List ℕ) → list_all is_ascii_digit ds ≡ true → AllDigits 10 ds
all_digits [] e = tt
all_digits (d ∷ ds) e =
    let t = and_parts (is_ascii_digit d) (list_all is_ascii_digit ds) e in
    (digit_is d t.0, all_digits ds t.1)

pub digits_all : (ds : List ℕ) → AllDigits 10 ds → list_all is_ascii_digit ds ≡ true
digits_all [] h = refl
digits_all (d ∷ ds) h =
    let r = digit_from_value d h.0 in
    and_from (is_ascii_digit d) (list_all is_ascii_digit ds) (is_digit d r.0 r.1) (digits_all ds h.1)

long : (n first : ℕ) → (ltb 0 n && (not (eqb first 48) || eqb n 1)) ≡ true → 0 < n
long n first e = grind arith

alone : (n first : ℕ) → (ltb 0 n && (not (eqb first 48) || eqb n 1)) ≡ true → first ≡ 48 → n ≡ 1
alone n first e z = grind arith

numeral_from : (n first : ℕ) → 0 < n → (first ≡ 48 → n ≡ 1) → (ltb 0 n && (not (eqb first 48) || eqb n 1)) ≡ true
numeral_from n first l h = grind arith

pub is_numeral-decimal : (n : ℕ) → n < 2 ^ 64 → is_numeral (decimal n) ≡ true
is_numeral-decimal zero lt = rw (decimal_digit 0 (omega arith)) refl
is_numeral-decimal (suc n) lt =
    let first = first_decimal (suc n) (omega arith) lt in
    numeral_from (length (decimal (suc n))) (get_or (decimal (suc n)) 0 0) (decimal_nonempty (suc n) lt) (λ z. absurd (omega arith))

-- the digits of a number in range are those that spell its value
digits_back : (most : ℕ) → most < 2 ^ 64 → (ds : List ℕ) → (list_all is_ascii_digit ds ≡ true) × (is_numeral_up_to most ds ≡ true) → decimal (digits_value 10 ds) ≡ ds
digits_back most small ds f =
    let t = and_parts (is_numeral ds) (leb (digits_value 10 ds) most) f.1 in
    let le : digits_value 10 ds ≤ most = leb-true _ _ t.1 in
    decimal-digits_value own ds (all_digits ds f.0) (long (length ds) (get_or ds 0 0) t.0) (alone (length ds) (get_or ds 0 0) t.0) (omega arith)

decimal_fits : (most n : ℕ) → most < 2 ^ 64 → n ≤ most → (list_all is_ascii_digit (decimal n) ≡ true) × (is_numeral_up_to most (decimal n) ≡ true)
decimal_fits most n small le =
    let lt : n < 2 ^ 64 = omega arith in
    (digits_all (decimal n) (digits_decimal own n lt), and_from (is_numeral (decimal n)) (leb (digits_value 10 (decimal n)) most) (is_numeral-decimal n lt) (rw (digits_value-decimal own n lt) (le-leb n most le)))

pub whole_number_reads : (most : ℕ) → most < 2 ^ 64 → Reads (IsNoMore is_ascii_digit) (λ n. n) decimal (λ n. n ≤ most) (number_at most)
unfolding number_at
whole_number_reads most small =
    as_reads {w = λ n. n} {G = λ n. n ≤ most} (digits_value 10) decimal (digits_value 10) (digits_back most small)
    (λ ds f. leb-true _ _ (and_parts (is_numeral ds) (leb (digits_value 10 ds) most) f.1).1)
    (λ n le. decimal_fits most n small le)
    (λ n le. sym (digits_value-decimal own n (omega arith)))
    (only_if_reads not_there (is_numeral_up_to most) (run_reads is_ascii_digit))

pub number_reads : (most : ℕ) → most < 2 ^ 64 → Reads IsEnded (λ n. n) decimal (λ n. n ≤ most) (number_at most)
number_reads most small = next_reads ended_digits (whole_number_reads most small)

-- ---- words

pub whole_word_reads : (first : ℕ → Bool) → Reads (IsNoMore is_word_byte) (λ word. word) (λ word. word) (IsWord first) (word_at first)
unfolding word_at
whole_word_reads first = only_if_reads not_there (begins first) (run_reads is_word_byte)

pub word_reads : (first : ℕ → Bool) → Reads IsEnded (λ word. word) (λ word. word) (IsWord first) (word_at first)
word_reads first = next_reads ended_word (whole_word_reads first)

lower_is_letter : (b : ℕ) → is_lower_case b ≡ true → is_letter b ≡ true
lower_is_letter b e = grind arith

upper_is_letter : (b : ℕ) → is_upper_case b ≡ true → is_letter b ≡ true
upper_is_letter b e = grind arith

pub lower_is_ident : (word : List ℕ) → begins is_lower_case word ≡ true → list_all is_word_byte word ≡ true → is_ident word ≡ true
lower_is_ident [] e all = absurd cc
lower_is_ident (b ∷ word) e all = and_from (is_letter b) (list_all is_word_byte word) (lower_is_letter b e) (and_parts (is_word_byte b) (list_all is_word_byte word) all).1

pub upper_is_ident : (word : List ℕ) → begins is_upper_case word ≡ true → list_all is_word_byte word ≡ true → is_ident word ≡ true
upper_is_ident [] e all = absurd cc
upper_is_ident (b ∷ word) e all = and_from (is_letter b) (list_all is_word_byte word) (upper_is_letter b e) (and_parts (is_word_byte b) (list_all is_word_byte word) all).1
