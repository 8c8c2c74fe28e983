-- The tokens of a text: how many they are, where they stand, which numbers they spell; and where a refusal is.
use Rattle.std.proofs.Common.{◌≡◌, ℕ, zero, suc, ◌+◌, ◌-◌, ◌<◌, ◌≤◌, Bool, true, false, cond, ltb, List, [], ◌∷◌, Option, Some, slice_get, length, take, drop, length-drop, refl, sym, ap, subst, ◌∙◌, arith}
use Rattle.std.specs.List.{list_all, prefix_len}
use Rattle.std.specs.Char.{is_ascii_digit}
use Rattle.std.specs.Str.Parse.{digits_value}
use Rattle.std.proofs.lemmas.Bool.{and_parts}
use Rattle.std.proofs.lemmas.List.{drop-drop}
use Rattle.bg_text.specs.declared.token.Token.{Token}
use Rattle.bg_text.specs.declared.token.TokenKind.{TokenKind}
use Rattle.bg_text.specs.Spelling.{number_kind}
use Rattle.bg_text.specs.Tokens.{greatest_int, is_decimal, fault_of_digits, number_fault, IsToken, Cuts, stop, gap, token, AreTokens, IsRefusal}
use Rattle.bg_text.proofs.Longest.{digits_longest}
use Rattle.bg_text.proofs.PieceLaws.{nothing_spelled, gap_within, refused_within}
use Rattle.bg_text.proofs.Unique.{one_size}

-- ---- bytes

-- a cut counts every byte
pub cut_count : {n m : ℕ} {bytes left : List ℕ} {tokens : List Token} → Cuts n bytes tokens m left → n + length bytes ≡ m + length left
cut_count stop = refl
cut_count {bytes} (gap size g r) = let h = cut_count r in let l = length-drop size bytes in let i = gap_within bytes size g in omega (arith, i.1)
cut_count {bytes} (token kind size t r) = let h = cut_count r in let l = length-drop size bytes in let i = t.is_longest.inside in omega arith

-- each token takes a byte
tokens_few : {n m : ℕ} {bytes left : List ℕ} {tokens : List Token} → Cuts n bytes tokens m left → length tokens ≤ length bytes
tokens_few stop = omega arith
tokens_few {bytes} (gap size g r) = let h = tokens_few r in let l = length-drop size bytes in omega arith
tokens_few {bytes} (token kind size t r) =
    let h = tokens_few r in
    let l = length-drop size bytes in
    let i = t.is_longest.inside in
    let some = nothing_spelled bytes size kind t.is_longest.spelled in
    omega arith

pub as_many_bytes : (bytes : List ℕ) (tokens : List Token) → AreTokens bytes tokens → length tokens ≤ length bytes
as_many_bytes bytes tokens cut = tokens_few cut

-- a refusal is at a byte of the text
pub refusal_inside : (bytes : List ℕ) (code offset : ℕ) → IsRefusal bytes code offset → offset ≤ length bytes
refusal_inside bytes code offset r =
    let h = cut_count r.cut in let l = refused_within r.left code r.apart r.refused in let o = r.offset_is in omega arith

-- ---- numbers

not_large : (d v : Bool) → ◌≡◌ {A = ℕ} (cond d 24 (cond v 23 0)) 0 → v ≡ false
not_large d false e = refl
not_large true true e = absurd (omega arith)
not_large false true e = absurd (omega arith)

first_passes : (b size : ℕ) (bytes : List ℕ) → 0 < size → list_all is_ascii_digit (take size (b ∷ bytes)) ≡ true → is_ascii_digit b ≡ true
first_passes b zero bytes l e = absurd (omega arith)
first_passes b (suc size) bytes l e = (and_parts (is_ascii_digit b) (list_all is_ascii_digit (take size bytes)) e).0

-- a token of digits is no greater number than the greatest
pub small : (bytes : List ℕ) (kind : TokenKind) (size : ℕ) → IsToken bytes kind size → list_all is_ascii_digit (take size bytes) ≡ true
    → ltb greatest_int (digits_value 10 (take size bytes)) ≡ false
unfolding number_fault
small [] kind zero t e = refl
small [] kind (suc size) t e = refl
small (b ∷ bytes) kind size t e =
    let digit : is_ascii_digit b ≡ true = first_passes b size bytes (nothing_spelled (b ∷ bytes) size kind t.is_longest.spelled) e in
    let run = prefix_len is_ascii_digit (b ∷ bytes) in
    let size_is = one_size (b ∷ bytes) kind (number_kind (take run (b ∷ bytes))) size run t.is_longest (digits_longest (b ∷ bytes) digit) in
    let whole = fault_of_digits (take run (b ∷ bytes)) (drop run (b ∷ bytes)) in
    let fault : whole ≡ 0 = sym (ap (λ v. cond v whole 0) digit) ∙ t.number in
    ap (λ n. ltb greatest_int (digits_value 10 (take n (b ∷ bytes)))) size_is
    ∙ not_large (is_decimal (drop run (b ∷ bytes))) (ltb greatest_int (digits_value 10 (take run (b ∷ bytes)))) fault

-- ---- places

at_first : {one other : Token} → ◌≡◌ {A = Option Token} (Some one) (Some other) → one ≡ other
at_first e = cc

behind : (n size : ℕ) (bytes whole : List ℕ) → bytes ≡ drop n whole → drop size bytes ≡ drop (n + size) whole
behind n size bytes whole e = ap (drop size) e ∙ drop-drop size n whole

here : (whole bytes : List ℕ) (n size : ℕ) (kind : TokenKind) → bytes ≡ drop n whole → IsToken bytes kind size → IsToken (drop n whole) kind (n + size - n)
here whole bytes n size kind e t =
    let size_is : size ≡ n + size - n = omega arith in
    subst (λ z. IsToken (drop n whole) kind z) size_is (subst (λ z. IsToken z kind size) e t)

-- each token of a cut stands in the text where it says
cut_at : {n m : ℕ} {bytes left : List ℕ} {tokens : List Token} → Cuts n bytes tokens m left → (whole : List ℕ) → bytes ≡ drop n whole → (number : ℕ) (t : Token)
    → slice_get tokens number ≡ Some t → IsToken (drop t.start whole) t.kind (t.end - t.start)
cut_at stop whole e number t f = absurd cc
cut_at {n} {bytes = bytes} (gap size g r) whole e number t f = cut_at r whole (behind n size bytes whole e) number t f
cut_at {n} {bytes = bytes} (token kind size k r) whole e zero t f =
    subst (λ z. IsToken (drop z.start whole) z.kind (z.end - z.start)) (at_first f) (here whole bytes n size kind e k)
cut_at {n} {bytes = bytes} (token kind size k r) whole e (suc number) t f = cut_at r whole (behind n size bytes whole e) number t f

-- a token by its number
pub token_at : (bytes : List ℕ) (tokens : List Token) (number : ℕ) (t : Token) → AreTokens bytes tokens → slice_get tokens number ≡ Some t
    → IsToken (drop t.start bytes) t.kind (t.end - t.start)
token_at bytes tokens number t cut f = cut_at cut bytes refl number t f
