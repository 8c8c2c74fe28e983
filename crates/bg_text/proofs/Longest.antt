-- The longest token by its first byte.
use Rattle.std.proofs.Common.{◌≡◌, ℕ, zero, suc, ◌<◌, ◌≤◌, Bool, true, false, ◌&&◌, cond, eqb, eqb-true, List, [], ◌∷◌, Option, Some, None, length, get_or, take, refl, sym, ap, ◌∙◌, arith}
use Rattle.std.specs.List.{prefix_len, list_all}
use Rattle.std.specs.Char.{is_ascii_digit, is_ascii_lowercase, is_ascii_uppercase}
use Rattle.std.proofs.lemmas.List.Sums.{prefix_len-le-length}
use Rattle.bg_text.specs.declared.token.TokenKind.{TokenKind}
use Rattle.bg_text.specs.declared.token.TokenKind.TheVariants.{Upper, Text, Arrow, BarBar}
use Rattle.bg_text.specs.Spelling.{is_word_byte, is_text_byte, ends_with_quote, lower_kind, number_kind, mark, symbol, only, kind_of}
use Rattle.bg_text.specs.Tokens.{IsLongest}
use Rattle.bg_text.specs.Pieces.{begins_otherwise, begins_arrow, begins_bars}
use Rattle.bg_text.proofs.RunLaws.{run_passes, run_fails, closed_is, closes}

-- a run is longest, where the bytes in front are a token exactly where they pass the test
pub run_longest : (p : ℕ → Bool) (kind : List ℕ → TokenKind) (bytes : List ℕ) → 0 < prefix_len p bytes
    → ((m : ℕ) → 0 < m → kind_of (take m bytes) ≡ only (list_all p (take m bytes)) (kind (take m bytes))) → IsLongest bytes (kind (take (prefix_len p bytes) bytes)) (prefix_len p bytes)
run_longest p kind bytes some at = record {
  inside = prefix_len-le-length p bytes;
  spelled = at (prefix_len p bytes) some ∙ ap (λ v. only v (kind (take (prefix_len p bytes) bytes))) (run_passes p bytes);
  longest = λ m lt le. at m (omega arith) ∙ ap (λ v. only v (kind (take m bytes))) (run_fails p bytes m lt le);
}

lower_at : (b : ℕ) (bytes : List ℕ) → is_ascii_lowercase b ≡ true → (m : ℕ) → 0 < m → kind_of (take m (b ∷ bytes)) ≡ only (list_all is_word_byte (take m (b ∷ bytes))) (lower_kind (take m (b ∷ bytes)))
unfolding kind_of
lower_at b bytes e zero l = absurd (omega arith)
lower_at b bytes e (suc m) l = rw e refl

upper_at : (b : ℕ) (bytes : List ℕ) → is_ascii_lowercase b ≡ false → is_ascii_uppercase b ≡ true → (m : ℕ) → 0 < m → kind_of (take m (b ∷ bytes)) ≡ only (list_all is_word_byte (take m (b ∷ bytes))) Upper
unfolding kind_of
upper_at b bytes e f zero l = absurd (omega arith)
upper_at b bytes e f (suc m) l = rw (e, f) refl

digit_at : (b : ℕ) (bytes : List ℕ) → is_ascii_lowercase b ≡ false → is_ascii_uppercase b ≡ false → is_ascii_digit b ≡ true → (m : ℕ) → 0 < m → kind_of (take m (b ∷ bytes)) ≡ only (list_all is_ascii_digit (take m (b ∷ bytes))) (number_kind (take m (b ∷ bytes)))
unfolding kind_of
digit_at b bytes e f g zero l = absurd (omega arith)
digit_at b bytes e f g (suc m) l = rw (e, f, g) refl

lower_is_word : (b : ℕ) → is_ascii_lowercase b ≡ true → is_word_byte b ≡ true
lower_is_word b e = grind arith

upper_is_word : (b : ℕ) → is_ascii_uppercase b ≡ true → is_word_byte b ≡ true
upper_is_word b e = grind arith

upper_not_lower : (b : ℕ) → is_ascii_uppercase b ≡ true → is_ascii_lowercase b ≡ false
upper_not_lower b e = grind arith

digit_not_lower : (b : ℕ) → is_ascii_digit b ≡ true → is_ascii_lowercase b ≡ false
digit_not_lower b e = grind arith

digit_not_upper : (b : ℕ) → is_ascii_digit b ≡ true → is_ascii_uppercase b ≡ false
digit_not_upper b e = grind arith

pub some_in_run : (p : ℕ → Bool) (b : ℕ) (bytes : List ℕ) → p b ≡ true → 0 < prefix_len p (b ∷ bytes)
some_in_run p b bytes e = rw e (omega arith)

pub lower_longest : (bytes : List ℕ) → is_ascii_lowercase (get_or bytes 0 0) ≡ true → IsLongest bytes (lower_kind (take (prefix_len is_word_byte bytes) bytes)) (prefix_len is_word_byte bytes)
lower_longest [] e = absurd cc
lower_longest (b ∷ bytes) e = run_longest is_word_byte lower_kind (b ∷ bytes) (some_in_run is_word_byte b bytes (lower_is_word b e)) (lower_at b bytes e)

pub upper_longest : (bytes : List ℕ) → is_ascii_uppercase (get_or bytes 0 0) ≡ true → IsLongest bytes Upper (prefix_len is_word_byte bytes)
upper_longest [] e = absurd cc
upper_longest (b ∷ bytes) e = run_longest is_word_byte (λ word. Upper) (b ∷ bytes) (some_in_run is_word_byte b bytes (upper_is_word b e)) (upper_at b bytes (upper_not_lower b e) e)

pub digits_longest : (bytes : List ℕ) → is_ascii_digit (get_or bytes 0 0) ≡ true → IsLongest bytes (number_kind (take (prefix_len is_ascii_digit bytes) bytes)) (prefix_len is_ascii_digit bytes)
digits_longest [] e = absurd cc
digits_longest (b ∷ bytes) e = run_longest is_ascii_digit number_kind (b ∷ bytes) (some_in_run is_ascii_digit b bytes e) (digit_at b bytes (digit_not_lower b e) (digit_not_upper b e) e)

-- ---- texts

quote_not_lower : (b : ℕ) → b ≡ 34 → is_ascii_lowercase b ≡ false
quote_not_lower b e = grind arith

quote_not_upper : (b : ℕ) → b ≡ 34 → is_ascii_uppercase b ≡ false
quote_not_upper b e = grind arith

quote_not_digit : (b : ℕ) → b ≡ 34 → is_ascii_digit b ≡ false
quote_not_digit b e = grind arith

quote_eqb : (b : ℕ) → b ≡ 34 → eqb b 34 ≡ true
quote_eqb b e = grind arith

pub text_at : (b : ℕ) (bytes : List ℕ) → b ≡ 34 → (m : ℕ) → kind_of (take (suc m) (b ∷ bytes)) ≡ only (ends_with_quote (take m bytes)) Text
unfolding kind_of
text_at b bytes e m = rw (quote_not_lower b e, quote_not_upper b e, quote_not_digit b e, quote_eqb b e) refl

pub not_true : (v : Bool) → (v ≡ true → ⊥) → v ≡ false
not_true true h = absurd (h refl)
not_true false h = refl

pub place_of_quote : (bytes : List ℕ) (n : ℕ) → get_or bytes n 0 ≡ 34 → n < length bytes
place_of_quote [] n e = absurd (omega arith)
place_of_quote (b ∷ bytes) zero e = omega arith
place_of_quote (b ∷ bytes) (suc n) e = let h = place_of_quote bytes n e in omega arith

text_longer : (b : ℕ) (bytes : List ℕ) → b ≡ 34 → (m : ℕ) → suc (suc (prefix_len is_text_byte bytes)) < m → m ≤ length (b ∷ bytes) → kind_of (take m (b ∷ bytes)) ≡ None
text_longer b bytes e zero lt le = absurd (omega arith)
text_longer b bytes e (suc m) lt le =
    text_at b bytes e m ∙ ap (λ v. only v Text) (not_true (ends_with_quote (take m bytes)) (λ h. let c = closed_is bytes m (omega arith) h in let s = c.size in omega arith))

pub text_longest : (b : ℕ) (bytes : List ℕ) → b ≡ 34 → get_or bytes (prefix_len is_text_byte bytes) 0 ≡ 34 → IsLongest (b ∷ bytes) Text (suc (suc (prefix_len is_text_byte bytes)))
text_longest b bytes e q = record {
  inside = let h = place_of_quote bytes (prefix_len is_text_byte bytes) q in omega arith;
  spelled = text_at b bytes e (suc (prefix_len is_text_byte bytes)) ∙ ap (λ v. only v Text) (closes bytes q);
  longest = text_longer b bytes e;
}

-- ---- symbols

other_lower : (b : ℕ) → begins_otherwise b ≡ false → is_ascii_lowercase b ≡ false
other_lower b e = grind arith

other_upper : (b : ℕ) → begins_otherwise b ≡ false → is_ascii_uppercase b ≡ false
other_upper b e = grind arith

pub other_digit : (b : ℕ) → begins_otherwise b ≡ false → is_ascii_digit b ≡ false
other_digit b e = grind arith

other_quote : (b : ℕ) → begins_otherwise b ≡ false → eqb b 34 ≡ false
other_quote b e = grind arith

symbol_is : (b : ℕ) (bytes : List ℕ) → begins_otherwise b ≡ false → kind_of (b ∷ bytes) ≡ symbol (b ∷ bytes)
unfolding kind_of
symbol_is b bytes e = rw (other_lower b e, other_upper b e, other_digit b e, other_quote b e) refl

no_long_symbol : (a b c d : ℕ) (bytes : List ℕ) → begins_otherwise a ≡ false → kind_of (a ∷ b ∷ c ∷ d ∷ bytes) ≡ None
no_long_symbol a b c d bytes e = symbol_is a (b ∷ c ∷ d ∷ bytes) e

three : (a b c : ℕ) → begins_otherwise a ≡ false → (v : Bool) → (eqb a 45 && (eqb b 45 && eqb c 62)) ≡ v → kind_of (a ∷ b ∷ c ∷ []) ≡ cond v (Some Arrow) None
three a b c e v h = symbol_is a (b ∷ c ∷ []) e ∙ ap (λ (w : Bool). cond {A = Option TokenKind} w (Some Arrow) None) h

two : (a b : ℕ) → begins_otherwise a ≡ false → (v : Bool) → (eqb a 124 && eqb b 124) ≡ v → kind_of (a ∷ b ∷ []) ≡ cond v (Some BarBar) None
two a b e v h = symbol_is a (b ∷ []) e ∙ ap (λ (w : Bool). cond {A = Option TokenKind} w (Some BarBar) None) h

longer_than_three : (bytes : List ℕ) → begins_otherwise (get_or bytes 0 0) ≡ false → (m : ℕ) → 3 < m → m ≤ length bytes → kind_of (take m bytes) ≡ None
longer_than_three (a ∷ b ∷ c ∷ d ∷ bytes) e (suc (suc (suc (suc m)))) lt le = no_long_symbol a b c d (take m bytes) e
longer_than_three [] e m lt le = absurd (omega arith)
longer_than_three (a ∷ []) e m lt le = absurd (omega arith)
longer_than_three (a ∷ b ∷ []) e m lt le = absurd (omega arith)
longer_than_three (a ∷ b ∷ c ∷ []) e m lt le = absurd (omega arith)
longer_than_three (a ∷ b ∷ c ∷ d ∷ bytes) e m lt le = absurd (omega arith)

not_arrow : (x y z : ℕ) → (eqb x 45 && (eqb y 45 && eqb z 62)) ≡ true → 0 < z
not_arrow x y z e = grind arith

past_two : (bytes : List ℕ) → 0 < get_or bytes 2 0 → 2 < length bytes
past_two [] h = absurd (omega arith)
past_two (a ∷ []) h = absurd (omega arith)
past_two (a ∷ b ∷ []) h = absurd (omega arith)
past_two (a ∷ b ∷ c ∷ bytes) h = omega arith

pub arrow_longest : (bytes : List ℕ) → begins_otherwise (get_or bytes 0 0) ≡ false → begins_arrow bytes ≡ true → IsLongest bytes Arrow 3
arrow_longest [] e h = absurd cc
arrow_longest (a ∷ []) e h = absurd (let l = past_two (a ∷ []) (not_arrow a 0 0 h) in omega arith)
arrow_longest (a ∷ b ∷ []) e h = absurd (let l = past_two (a ∷ b ∷ []) (not_arrow a b 0 h) in omega arith)
arrow_longest (a ∷ b ∷ c ∷ bytes) e h = record {
  inside = omega arith;
  spelled = three a b c e true h;
  longest = longer_than_three (a ∷ b ∷ c ∷ bytes) e;
}

bars_not_arrow : (a b c d : ℕ) → (eqb a 124 && eqb b 124) ≡ true → (eqb a 45 && (eqb c 45 && eqb d 62)) ≡ false
bars_not_arrow a b c d e = grind arith

bars_longer : (bytes : List ℕ) → begins_otherwise (get_or bytes 0 0) ≡ false → begins_bars bytes ≡ true → (m : ℕ) → 2 < m → m ≤ length bytes → kind_of (take m bytes) ≡ None
bars_longer (a ∷ b ∷ c ∷ bytes) e h (suc (suc (suc zero))) lt le = three a b c e false (bars_not_arrow a b b c h)
bars_longer (a ∷ b ∷ c ∷ d ∷ bytes) e h (suc (suc (suc (suc m)))) lt le = no_long_symbol a b c d (take m bytes) e
bars_longer [] e h m lt le = absurd (omega arith)
bars_longer (a ∷ []) e h m lt le = absurd (omega arith)
bars_longer (a ∷ b ∷ []) e h m lt le = absurd (omega arith)
bars_longer (a ∷ b ∷ c ∷ bytes) e h m lt le = absurd (omega arith)

not_bars : (x y : ℕ) → (eqb x 124 && eqb y 124) ≡ true → 0 < y
not_bars x y e = grind arith

pub bars_longest : (bytes : List ℕ) → begins_otherwise (get_or bytes 0 0) ≡ false → begins_bars bytes ≡ true → IsLongest bytes BarBar 2
bars_longest [] e h = absurd cc
bars_longest (a ∷ []) e h = absurd (let l = not_bars a 0 h in omega arith)
bars_longest (a ∷ b ∷ bytes) e h = record {
  inside = omega arith;
  spelled = two a b e true h;
  longest = bars_longer (a ∷ b ∷ bytes) e h;
}

mark_longer : (bytes : List ℕ) → begins_otherwise (get_or bytes 0 0) ≡ false → begins_arrow bytes ≡ false → begins_bars bytes ≡ false → (m : ℕ) → 1 < m → m ≤ length bytes → kind_of (take m bytes) ≡ None
mark_longer (a ∷ b ∷ bytes) e h k (suc (suc zero)) lt le = two a b e false k
mark_longer (a ∷ b ∷ c ∷ bytes) e h k (suc (suc (suc zero))) lt le = three a b c e false h
mark_longer (a ∷ b ∷ c ∷ d ∷ bytes) e h k (suc (suc (suc (suc m)))) lt le = no_long_symbol a b c d (take m bytes) e
mark_longer [] e h k m lt le = absurd (omega arith)
mark_longer (a ∷ []) e h k m lt le = absurd (omega arith)
mark_longer (a ∷ b ∷ []) e h k m lt le = absurd (omega arith)
mark_longer (a ∷ b ∷ bytes) e h k m lt le = absurd (omega arith)

pub mark_longest : (bytes : List ℕ) (kind : TokenKind) → 0 < length bytes → begins_otherwise (get_or bytes 0 0) ≡ false → begins_arrow bytes ≡ false → begins_bars bytes ≡ false
    → mark (get_or bytes 0 0) ≡ Some kind → IsLongest bytes kind 1
mark_longest [] kind l e h k s = absurd (omega arith)
mark_longest (a ∷ bytes) kind l e h k s = record {
  inside = omega arith;
  spelled = symbol_is a [] e ∙ s;
  longest = mark_longer (a ∷ bytes) e h k;
}

mark_not : (b n : ℕ) (v : Bool) → eqb b n ≡ v → (b ≡ n → mark b ≡ None → ⊥) → mark b ≡ None → eqb b n ≡ false
mark_not b n true e h k = absurd (h (eqb-true b n e) k)
mark_not b n false e h k = e

bar_is_mark : (b : ℕ) → b ≡ 124 → mark b ≡ None → ⊥
unfolding mark
bar_is_mark b e h = let k : mark 124 ≡ None = ap mark (sym e) ∙ h in cc

minus_is_mark : (b : ℕ) → b ≡ 45 → mark b ≡ None → ⊥
unfolding mark
minus_is_mark b e h = let k : mark 45 ≡ None = ap mark (sym e) ∙ h in cc

pub no_mark_no_token : (b : ℕ) → begins_otherwise b ≡ false → mark b ≡ None → (word : List ℕ) → kind_of (b ∷ word) ≡ None
no_mark_no_token b e h [] = symbol_is b [] e ∙ h
no_mark_no_token b e h (c ∷ []) = two b c e false (ap (λ v. v && eqb c 124) (mark_not b 124 (eqb b 124) refl (bar_is_mark b) h))
no_mark_no_token b e h (c ∷ d ∷ []) = three b c d e false (ap (λ v. v && (eqb c 45 && eqb d 62)) (mark_not b 45 (eqb b 45) refl (minus_is_mark b) h))
no_mark_no_token b e h (c ∷ d ∷ f ∷ word) = no_long_symbol b c d f word e
