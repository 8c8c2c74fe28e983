-- What stands in front, by the first byte.
use Rattle.std.proofs.Common.{◌≡◌, ℕ, zero, suc, ◌+◌, ◌<◌, ◌≤◌, Bool, true, false, cond, eqb, eqb-true, leb, ltb, List, [], ◌∷◌, Some, None, length, get_or, take, drop, refl, sym, ap, subst, ◌∙◌, arith}
use Rattle.std.specs.List.{prefix_len}
use Rattle.std.specs.Char.{is_ascii_digit, is_ascii_lowercase, is_ascii_uppercase}
use Rattle.std.specs.Str.Parse.{digits_value}
use Rattle.std.proofs.lemmas.List.{length-take}
use Rattle.std.proofs.lemmas.List.Sums.{prefix_len-le-length}
use Rattle.bg_text.specs.declared.token.TokenKind.{TokenKind}
use Rattle.bg_text.specs.declared.token.TokenKind.TheVariants.{Upper, Text, Arrow, BarBar}
use Rattle.bg_text.specs.Spelling.{is_word_byte, is_text_byte, is_space, lower_kind, number_kind, mark, kind_of}
use Rattle.bg_text.specs.Tokens.{IsGap, space, comment, is_not_line_feed, is_inside, IsLongest, IsToken, is_decimal, greatest_int, fault_of_digits, number_fault, Refuses, bad_byte, bad_in_text, open_text, bad_number}
use Rattle.bg_text.specs.declared.piece.Piece.{Piece}
use Rattle.bg_text.specs.declared.piece.Piece.TheVariants.{Gap, Token, Bad}
use Rattle.bg_text.specs.Pieces.{IsPiece, IsWithin, begins_otherwise, begins_arrow, begins_bars}
use Rattle.bg_text.proofs.RunLaws.{text_run_inside}
use Rattle.bg_text.proofs.Longest.{lower_longest, upper_longest, digits_longest, text_longest, arrow_longest, bars_longest, mark_longest, no_mark_no_token, other_digit}

-- ---- gaps

pub space_is : (bytes : List ℕ) → 0 < length bytes → is_space (get_or bytes 0 0) ≡ true → IsGap bytes 1
space_is [] l e = absurd (omega arith)
space_is (b ∷ bytes) l e = space e

pub comment_is : (bytes rest : List ℕ) (count size : ℕ) → get_or bytes 0 0 ≡ 35 → rest ≡ drop 1 bytes → count ≡ prefix_len is_not_line_feed rest → size ≡ 1 + count → IsGap bytes size
comment_is [] rest count size e r c s = absurd (omega arith)
comment_is (b ∷ bytes) rest count size e r c s =
    let k : size ≡ suc (prefix_len is_not_line_feed bytes) = s ∙ ap (λ n. 1 + n) (c ∙ ap (prefix_len is_not_line_feed) r) ∙ omega arith in
    rw k (comment e)

-- ---- words

no_digit_no_fault : (bytes : List ℕ) → is_ascii_digit (get_or bytes 0 0) ≡ false → number_fault bytes ≡ 0
unfolding number_fault
no_digit_no_fault [] e = refl
no_digit_no_fault (b ∷ bytes) e = rw e refl

lower_no_digit : (b : ℕ) → is_ascii_lowercase b ≡ true → is_ascii_digit b ≡ false
lower_no_digit b e = grind arith

upper_no_digit : (b : ℕ) → is_ascii_uppercase b ≡ true → is_ascii_digit b ≡ false
upper_no_digit b e = grind arith

quote_no_digit : (b : ℕ) → b ≡ 34 → is_ascii_digit b ≡ false
quote_no_digit b e = grind arith

same_longest : (bytes : List ℕ) (k kind : TokenKind) (n size : ℕ) → kind ≡ k → size ≡ n → IsLongest bytes k n → IsLongest bytes kind size
same_longest bytes k kind n size e f h = subst (λ z. IsLongest bytes z size) (sym e) (subst (λ z. IsLongest bytes k z) (sym f) h)

pub upper_is : (bytes : List ℕ) (size : ℕ) → is_ascii_uppercase (get_or bytes 0 0) ≡ true → size ≡ prefix_len is_word_byte bytes → IsToken bytes Upper size
upper_is bytes size e s = record {
  is_longest = same_longest bytes Upper Upper (prefix_len is_word_byte bytes) size refl s (upper_longest bytes e);
  number = no_digit_no_fault bytes (upper_no_digit (get_or bytes 0 0) e);
}

taken : (p : ℕ → Bool) (bytes word : List ℕ) (count size : ℕ) → count ≡ prefix_len p bytes → word ≡ take count bytes → size ≡ length word → size ≡ prefix_len p bytes
taken p bytes word count size c w s =
    let le = prefix_len-le-length p bytes in
    s ∙ ap length (w ∙ ap (λ n. take n bytes) c) ∙ omega (arith, length-take (prefix_len p bytes) bytes)

pub lower_is : (bytes word : List ℕ) (kind : TokenKind) (count size : ℕ) → is_ascii_lowercase (get_or bytes 0 0) ≡ true → count ≡ prefix_len is_word_byte bytes → word ≡ take count bytes
    → kind ≡ lower_kind word → size ≡ length word → IsToken bytes kind size
lower_is bytes word kind count size e c w k s = record {
  is_longest = same_longest bytes (lower_kind (take (prefix_len is_word_byte bytes) bytes)) kind (prefix_len is_word_byte bytes) size
      (k ∙ ap lower_kind (w ∙ ap (λ n. take n bytes) c)) (taken is_word_byte bytes word count size c w s) (lower_longest bytes e);
  number = no_digit_no_fault bytes (lower_no_digit (get_or bytes 0 0) e);
}

-- ---- numbers

fault_is : (bytes digits behind : List ℕ) (count : ℕ) → is_ascii_digit (get_or bytes 0 0) ≡ true → count ≡ prefix_len is_ascii_digit bytes → digits ≡ take count bytes → behind ≡ drop count bytes
    → number_fault bytes ≡ fault_of_digits digits behind
unfolding number_fault
fault_is [] digits behind count e c d b = absurd cc
fault_is (x ∷ bytes) digits behind count e c d b =
    let n = prefix_len is_ascii_digit (x ∷ bytes) in
    let whole = fault_of_digits (take n (x ∷ bytes)) (drop n (x ∷ bytes)) in
    ap (λ v. cond v whole 0) e ∙ ap (λ k. fault_of_digits (take k (x ∷ bytes)) (drop k (x ∷ bytes))) (sym c)
    ∙ ap (λ y. fault_of_digits y (drop count (x ∷ bytes))) (sym d) ∙ ap (fault_of_digits digits) (sym b)

large : (n : ℕ) → leb n greatest_int ≡ false → ltb greatest_int n ≡ true
large n e = grind arith

not_large : (n : ℕ) → leb n greatest_int ≡ true → ltb greatest_int n ≡ false
not_large n e = grind arith

pub decimal_refused : (bytes digits behind : List ℕ) (count : ℕ) → is_ascii_digit (get_or bytes 0 0) ≡ true → count ≡ prefix_len is_ascii_digit bytes → digits ≡ take count bytes → behind ≡ drop count bytes
    → is_decimal behind ≡ true → Refuses bytes 24 0
decimal_refused bytes digits behind count e c d b t =
    bad_number (omega arith) (fault_is bytes digits behind count e c d b ∙ ap (λ v. cond v 24 (cond (ltb greatest_int (digits_value 10 digits)) 23 0)) t)

pub large_refused : (bytes digits behind : List ℕ) (count : ℕ) → is_ascii_digit (get_or bytes 0 0) ≡ true → count ≡ prefix_len is_ascii_digit bytes → digits ≡ take count bytes → behind ≡ drop count bytes
    → is_decimal behind ≡ false → leb (digits_value 10 digits) greatest_int ≡ false → Refuses bytes 23 0
large_refused bytes digits behind count e c d b t h =
    bad_number (omega arith) (fault_is bytes digits behind count e c d b ∙ ap (λ v. cond v 24 (cond (ltb greatest_int (digits_value 10 digits)) 23 0)) t
    ∙ ap (λ v. cond v 23 0) (large (digits_value 10 digits) h))

pub number_is : (bytes digits behind : List ℕ) (kind : TokenKind) (count size : ℕ) → is_ascii_digit (get_or bytes 0 0) ≡ true → count ≡ prefix_len is_ascii_digit bytes → digits ≡ take count bytes → behind ≡ drop count bytes
    → is_decimal behind ≡ false → leb (digits_value 10 digits) greatest_int ≡ true → kind ≡ number_kind digits → size ≡ length digits → IsToken bytes kind size
number_is bytes digits behind kind count size e c d b t h k s = record {
  is_longest = same_longest bytes (number_kind (take (prefix_len is_ascii_digit bytes) bytes)) kind (prefix_len is_ascii_digit bytes) size
      (k ∙ ap number_kind (d ∙ ap (λ n. take n bytes) c)) (taken is_ascii_digit bytes digits count size c d s) (digits_longest bytes e);
  number = fault_is bytes digits behind count e c d b ∙ ap (λ v. cond v 24 (cond (ltb greatest_int (digits_value 10 digits)) 23 0)) t
      ∙ ap (λ v. cond v 23 0) (not_large (digits_value 10 digits) h);
}

-- ---- texts

not_quote : (b : ℕ) → eqb b 34 ≡ false → b ≡ 34 → ⊥
not_quote b e f = grind arith

pub open_refused : (bytes rest : List ℕ) (inside : ℕ) → get_or bytes 0 0 ≡ 34 → rest ≡ drop 1 bytes → inside ≡ prefix_len is_inside rest → eqb (get_or rest inside 0) 34 ≡ false → Refuses bytes 22 0
open_refused [] rest inside e r i q = absurd (omega arith)
open_refused (b ∷ bytes) rest inside e r i q =
    open_text e (not_quote (get_or bytes (prefix_len is_inside bytes) 0) (ap (λ n. eqb (get_or bytes n 0) 34) (sym (i ∙ ap (prefix_len is_inside) r)) ∙ ap (λ y. eqb (get_or y inside 0) 34) (sym r) ∙ q))

pub bad_text_refused : (bytes rest : List ℕ) (inside good apart : ℕ) → get_or bytes 0 0 ≡ 34 → rest ≡ drop 1 bytes → inside ≡ prefix_len is_inside rest → eqb (get_or rest inside 0) 34 ≡ true
    → good ≡ prefix_len is_text_byte rest → good < inside → apart ≡ 1 + good → Refuses bytes 21 apart
bad_text_refused [] rest inside good apart e r i q g l a = absurd (omega arith)
bad_text_refused (b ∷ bytes) rest inside good apart e r i q g l a =
    let i1 : inside ≡ prefix_len is_inside bytes = i ∙ ap (prefix_len is_inside) r in
    let g1 : good ≡ prefix_len is_text_byte bytes = g ∙ ap (prefix_len is_text_byte) r in
    let a1 : apart ≡ suc (prefix_len is_text_byte bytes) = omega arith in
    let l1 : prefix_len is_text_byte bytes < prefix_len is_inside bytes = omega arith in
    rw a1 (bad_in_text {b = b} {bytes = bytes} e (eqb-true (get_or bytes (prefix_len is_inside bytes) 0) 34 (ap (λ n. eqb (get_or bytes n 0) 34) (sym i1) ∙ ap (λ y. eqb (get_or y inside 0) 34) (sym r) ∙ q)) l1)

pub text_is : (bytes rest : List ℕ) (inside good size : ℕ) → get_or bytes 0 0 ≡ 34 → rest ≡ drop 1 bytes → inside ≡ prefix_len is_inside rest → eqb (get_or rest inside 0) 34 ≡ true
    → good ≡ prefix_len is_text_byte rest → inside ≤ good → size ≡ good + 2 → IsToken bytes Text size
text_is [] rest inside good size e r i q g l s = absurd (omega arith)
text_is (b ∷ bytes) rest inside good size e r i q g l s =
    let i1 : inside ≡ prefix_len is_inside bytes = i ∙ ap (prefix_len is_inside) r in
    let g1 : good ≡ prefix_len is_text_byte bytes = g ∙ ap (prefix_len is_text_byte) r in
    let le = text_run_inside bytes in
    let n : inside ≡ prefix_len is_text_byte bytes = omega arith in
    let s1 : size ≡ suc (suc (prefix_len is_text_byte bytes)) = omega arith in
    record {
      is_longest = same_longest (b ∷ bytes) Text Text (suc (suc (prefix_len is_text_byte bytes))) size refl s1
          (text_longest b bytes e (eqb-true (get_or bytes (prefix_len is_text_byte bytes) 0) 34 (ap (λ n. eqb (get_or bytes n 0) 34) (sym n) ∙ ap (λ y. eqb (get_or y inside 0) 34) (sym r) ∙ q)));
      number = no_digit_no_fault (b ∷ bytes) (quote_no_digit b e);
    }

-- ---- symbols

pub arrow_is : (bytes : List ℕ) → begins_otherwise (get_or bytes 0 0) ≡ false → begins_arrow bytes ≡ true → IsToken bytes Arrow 3
arrow_is bytes e h = record { is_longest = arrow_longest bytes e h; number = no_digit_no_fault bytes (other_digit (get_or bytes 0 0) e) }

pub bars_is : (bytes : List ℕ) → begins_otherwise (get_or bytes 0 0) ≡ false → begins_bars bytes ≡ true → IsToken bytes BarBar 2
bars_is bytes e h = record { is_longest = bars_longest bytes e h; number = no_digit_no_fault bytes (other_digit (get_or bytes 0 0) e) }

pub mark_is : (bytes : List ℕ) (kind : TokenKind) → 0 < length bytes → begins_otherwise (get_or bytes 0 0) ≡ false → begins_arrow bytes ≡ false → begins_bars bytes ≡ false
    → mark (get_or bytes 0 0) ≡ Some kind → IsToken bytes kind 1
mark_is bytes kind l e h k s = record { is_longest = mark_longest bytes kind l e h k s; number = no_digit_no_fault bytes (other_digit (get_or bytes 0 0) e) }

other_space : (b : ℕ) → begins_otherwise b ≡ false → is_space b ≡ true → ⊥
other_space b e f = grind arith

other_comment : (b : ℕ) → begins_otherwise b ≡ false → b ≡ 35 → ⊥
other_comment b e f = grind arith

no_gap : (b : ℕ) (bytes : List ℕ) → begins_otherwise b ≡ false → (size : ℕ) → IsGap (b ∷ bytes) size → ⊥
no_gap b bytes e size (space f) = other_space b e f
no_gap b bytes e size (comment f) = other_comment b e f

pub byte_refused : (bytes : List ℕ) → 0 < length bytes → begins_otherwise (get_or bytes 0 0) ≡ false → mark (get_or bytes 0 0) ≡ None → Refuses bytes 21 0
byte_refused [] l e h = absurd (omega arith)
byte_refused (b ∷ bytes) l e h = bad_byte (no_gap b bytes e) (no_mark_no_token b e h)

-- ---- places

pub gap_within : (bytes : List ℕ) (size : ℕ) → IsGap bytes size → (0 < size) × (size ≤ length bytes)
gap_within [] size g = elim g [ ]
gap_within (b ∷ bytes) size (space e) = (omega arith, omega arith)
gap_within (b ∷ bytes) size (comment e) = let h = prefix_len-le-length is_not_line_feed bytes in (omega arith, omega arith)

pub nothing_spelled : (bytes : List ℕ) (size : ℕ) (kind : TokenKind) → kind_of (take size bytes) ≡ Some kind → 0 < size
unfolding kind_of
nothing_spelled bytes zero kind e = absurd cc
nothing_spelled bytes (suc size) kind e = omega arith

pub refused_within : (bytes : List ℕ) (code apart : ℕ) → Refuses bytes code apart → apart < length bytes
unfolding number_fault
refused_within (b ∷ bytes) code apart (bad_byte g t) = omega arith
refused_within (b ∷ bytes) code apart (bad_in_text e q l) = let h = prefix_len-le-length is_inside bytes in omega arith
refused_within (b ∷ bytes) code apart (open_text e q) = omega arith
refused_within [] code apart (bad_number l e) = absurd (omega arith)
refused_within (b ∷ bytes) code apart (bad_number l e) = omega arith

pub piece_within : (bytes : List ℕ) (piece : Piece) → IsPiece bytes piece → IsWithin (length bytes) piece
piece_within bytes (Gap size) h = gap_within bytes size h
piece_within bytes (Token kind size) h = (nothing_spelled bytes size kind h.is_longest.spelled, h.is_longest.inside)
piece_within bytes (Bad code apart) h = refused_within bytes code apart h

pub other_from : (b : ℕ) → is_space b ≡ false → (b ≡ 35 → ⊥) → (b ≡ 34 → ⊥) → is_ascii_digit b ≡ false → is_ascii_lowercase b ≡ false → is_ascii_uppercase b ≡ false → begins_otherwise b ≡ false
other_from b s c q d l u = grind arith
