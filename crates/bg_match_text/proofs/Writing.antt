-- Texts written one behind the other, and what is left after an error.
use Rattle.std.proofs.Common.{◌≡◌, ◌≤◌, ℕ, List, ◌++◌, length, take, Result, Ok, Err, OnErr, refl, arith, sym, ap, ◌∙◌, append_assoc, length-append}
use Rattle.std.proofs.lemmas.List.{take-take, take_at}

pub behind : (before now after first second : List ℕ) → now ≡ before ++ first → after ≡ now ++ second → after ≡ before ++ (first ++ second)
behind before now after first second one two = rw (two, one) (append_assoc before first second)

pub kept_behind : (before now after first : List ℕ) → now ≡ before ++ first → take (length now) after ≡ now → take (length before) after ≡ before
kept_behind before now after first one kept =
    let shorter : length before ≤ length now = omega (arith, ap length one, length-append before first) in
    sym (take-take (length before) (length now) after shorter) ∙ ap (take (length before)) (kept ∙ one) ∙ take_at before first (length before) refl

pub kept_on_error : {T E : Type 0} (answer : Result T E) (before now after first : List ℕ) → now ≡ before ++ first → take (length now) after ≡ now
    → OnErr answer (take (length before) after ≡ before)
kept_on_error (Ok x) before now after first one kept = tt
kept_on_error (Err e) before now after first one kept = kept_behind before now after first one kept

-- a text of four parts and the rest behind it
pub four_and_rest : (before now after a b c d rest : List ℕ) → now ≡ before ++ (a ++ (b ++ (c ++ d))) → after ≡ now ++ rest
    → after ≡ before ++ (a ++ (b ++ (c ++ (d ++ rest))))
four_and_rest before now after a b c d rest one two = rw (two, one) (simp append_assoc)
