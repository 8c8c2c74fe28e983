-- The laws of runs: the bytes in front that pass a test.
use Rattle.std.proofs.Common.{◌≡◌, ℕ, zero, suc, ◌+◌, ◌<◌, ◌≤◌, Bool, true, false, ◌&&◌, cond, eqb, eqb-true, List, [], ◌∷◌, length, get_or, take, refl, sym, ap, ◌∙◌, arith}
use Rattle.std.specs.List.{prefix_len, list_all}
use Rattle.std.proofs.lemmas.Bool.{and_parts}
use Rattle.bg_text.specs.Spelling.{is_text_byte, ends_with_quote}
use Rattle.bg_text.specs.Tokens.{is_inside}

passes_if : (p : ℕ → Bool) (b : ℕ) (bytes : List ℕ) (v : Bool) → p b ≡ v → list_all p (take (prefix_len p bytes) bytes) ≡ true → list_all p (take (cond v (1 + prefix_len p bytes) 0) (b ∷ bytes)) ≡ true
passes_if p b bytes true e h = let k : 1 + prefix_len p bytes ≡ suc (prefix_len p bytes) = omega arith in rw (k, e) h
passes_if p b bytes false e h = refl

-- a run passes its test
pub run_passes : (p : ℕ → Bool) (bytes : List ℕ) → list_all p (take (prefix_len p bytes) bytes) ≡ true
run_passes p [] = refl
run_passes p (b ∷ bytes) = passes_if p b bytes (p b) refl (run_passes p bytes)

fails_if : (p : ℕ → Bool) (b : ℕ) (bytes : List ℕ) (m : ℕ) (v : Bool) → p b ≡ v → cond v (1 + prefix_len p bytes) 0 < suc m → (prefix_len p bytes < m → list_all p (take m bytes) ≡ false) → (v && list_all p (take m bytes)) ≡ false
fails_if p b bytes m true e lt h = h (omega arith)
fails_if p b bytes m false e lt h = refl

-- more bytes than the run do not
pub run_fails : (p : ℕ → Bool) (bytes : List ℕ) (m : ℕ) → prefix_len p bytes < m → m ≤ length bytes → list_all p (take m bytes) ≡ false
run_fails p [] m lt le = absurd (omega arith)
run_fails p (b ∷ bytes) zero lt le = absurd (omega arith)
run_fails p (b ∷ bytes) (suc m) lt le = fails_if p b bytes m (p b) refl lt (λ l. run_fails p bytes m l (omega arith))

-- ---- texts

quote_is_no_text_byte : (b : ℕ) → eqb b 34 ≡ true → is_text_byte b ≡ false
quote_is_no_text_byte b e = grind arith

is_quote : (b : ℕ) → b ≡ 34 → eqb b 34 ≡ true
is_quote b e = grind arith

text_is_inside : (b : ℕ) → is_text_byte b ≡ true → is_inside b ≡ true
text_is_inside b e = grind arith

quote_is_outside : (b : ℕ) → b ≡ 34 → is_inside b ≡ false
quote_is_outside b e = grind arith

-- the run of text bytes, with the quote behind it
pub record IsClosed (bytes : List ℕ) (m : ℕ) : Type 0 where
  pub size : m ≡ suc (prefix_len is_text_byte bytes)
  pub quote : get_or bytes (prefix_len is_text_byte bytes) 0 ≡ 34

closed_more : (b c : ℕ) (bytes : List ℕ) (m : ℕ) → is_text_byte b ≡ true → IsClosed (c ∷ bytes) m → IsClosed (b ∷ c ∷ bytes) (suc m)
closed_more b c bytes m e h =
    let n : prefix_len is_text_byte (b ∷ c ∷ bytes) ≡ suc (prefix_len is_text_byte (c ∷ bytes)) = ap (λ v. cond v (1 + prefix_len is_text_byte (c ∷ bytes)) 0) e ∙ omega arith in
    record { size = ap suc h.size ∙ ap suc (sym n); quote = ap (λ k. get_or (b ∷ c ∷ bytes) k 0) n ∙ h.quote }

-- where bytes in front close a text, they are the run of text bytes and a quote
pub closed_is : (bytes : List ℕ) (m : ℕ) → m ≤ length bytes → ends_with_quote (take m bytes) ≡ true → IsClosed bytes m
closed_is [] zero le e = absurd cc
closed_is [] (suc m) le e = absurd (omega arith)
closed_is (b ∷ bytes) zero le e = absurd cc
closed_is (b ∷ bytes) (suc zero) le e =
    let n : prefix_len is_text_byte (b ∷ bytes) ≡ 0 = ap (λ v. cond v (1 + prefix_len is_text_byte bytes) 0) (quote_is_no_text_byte b e) in
    record { size = ap suc (sym n); quote = ap (λ k. get_or (b ∷ bytes) k 0) n ∙ eqb-true b 34 e }
closed_is (b ∷ []) (suc (suc m)) le e = absurd (omega arith)
closed_is (b ∷ c ∷ bytes) (suc (suc m)) le e =
    let t = and_parts (is_text_byte b) (ends_with_quote (c ∷ take m bytes)) e in
    closed_more b c bytes (suc m) t.0 (closed_is (c ∷ bytes) (suc m) (omega arith) t.1)

closes_more : (b : ℕ) (bytes : List ℕ) (v : Bool) → is_text_byte b ≡ v → get_or (b ∷ bytes) (cond v (1 + prefix_len is_text_byte bytes) 0) 0 ≡ 34
    → (get_or bytes (prefix_len is_text_byte bytes) 0 ≡ 34 → ends_with_quote (take (suc (prefix_len is_text_byte bytes)) bytes) ≡ true)
    → ends_with_quote (take (suc (cond v (1 + prefix_len is_text_byte bytes) 0)) (b ∷ bytes)) ≡ true
closes_more b [] true e q h = absurd cc
closes_more b (c ∷ bytes) true e q h =
    let n = prefix_len is_text_byte (c ∷ bytes) in
    let k : 1 + n ≡ suc n = omega arith in
    let q1 : get_or (c ∷ bytes) n 0 ≡ 34 = ap (λ i. get_or (b ∷ c ∷ bytes) i 0) (sym k) ∙ q in
    rw k (rw e (h q1))
closes_more b bytes false e q h = is_quote b q

-- where a quote stands behind the run of text bytes, they close a text
pub closes : (bytes : List ℕ) → get_or bytes (prefix_len is_text_byte bytes) 0 ≡ 34 → ends_with_quote (take (suc (prefix_len is_text_byte bytes)) bytes) ≡ true
closes [] q = absurd (omega arith)
closes (b ∷ bytes) q = closes_more b bytes (is_text_byte b) refl q (closes bytes)

inside_more : (b : ℕ) (bytes : List ℕ) (v w : Bool) → is_text_byte b ≡ v → is_inside b ≡ w → prefix_len is_text_byte bytes ≤ prefix_len is_inside bytes
    → cond v (1 + prefix_len is_text_byte bytes) 0 ≤ cond w (1 + prefix_len is_inside bytes) 0
inside_more b bytes true true e f le = omega arith
inside_more b bytes true false e f le = let k = text_is_inside b e in absurd cc
inside_more b bytes false w e f le = omega arith

-- bytes of a text stand before the next quote or line feed
pub text_run_inside : (bytes : List ℕ) → prefix_len is_text_byte bytes ≤ prefix_len is_inside bytes
text_run_inside [] = omega arith
text_run_inside (b ∷ bytes) = inside_more b bytes (is_text_byte b) (is_inside b) refl refl (text_run_inside bytes)
