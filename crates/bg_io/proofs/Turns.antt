-- What one turn of a loop adds: to the bytes that a source has given, and to those that a sink was given.
use Rattle.std.proofs.Common.{◌≡◌, ◌≤◌, ◌+◌, ◌-◌, ℕ, List, ◌++◌, length, take, drop, sym, ◌∙◌, ap, subst}
use Rattle.std.specs.declared.option.Option.{Option}
use Rattle.std.specs.Io.KnownBytes.{Appends, Consumes}
use Rattle.std.proofs.KnownBytes.{Appends-trans, Consumes-trans}
use Rattle.std.proofs.Math.Seq.{take-add, take-append-add}
use Rattle.std.proofs.lemmas.List.{take-take, take-append-le, length-take-le}
use borrow.Rule.Slice.PartMut.{put_mid}

-- the front of a buffer is what the source has given so far; no read failed, and each is counted
pub record HasFilled (count : ℕ) (buf : List ℕ) (left_before left_now : Option (List ℕ)) (faults_before faults_now reads_before reads_now : ℕ) : Type 0 where
  pub within : count ≤ length buf
  pub given : Consumes left_before left_now (take count buf)
  pub same : faults_now ≡ faults_before
  pub reads : reads_now ≤ reads_before + count

-- the front of the bytes is what the sink was given so far
pub record HasSent (count : ℕ) (bytes : List ℕ) (held_before held_now : Option (List ℕ)) (faults_before faults_now : ℕ) : Type 0 where
  pub within : count ≤ length bytes
  pub sent : Appends held_before held_now (take count bytes)
  pub same : faults_now ≡ faults_before

take-put_mid-add : (i n k : ℕ) (xs ys : List ℕ) → i ≤ length xs → n ≤ length ys
    → take (i + n) (put_mid i k xs ys) ≡ take i xs ++ take n ys
take-put_mid-add i n k xs ys within fits =
    let front = take i xs in
    let rest = ys ++ drop k (drop i xs) in
    let same : length front ≡ i = length-take-le i xs within in
    ap (λ m. take (m + n) (front ++ rest)) (sym same) ∙ take-append-add front rest n ∙ ap (λ zs. front ++ zs) (take-append-le n ys (drop k (drop i xs)) fits)

pub Consumes-turn : (a b c : Option (List ℕ)) (i n k : ℕ) (xs ys : List ℕ) → i ≤ length xs → n ≤ length ys
    → Consumes a b (take i xs) → Consumes b c (take n ys) → Consumes a c (take (i + n) (put_mid i k xs ys))
Consumes-turn a b c i n k xs ys within fits first second =
    subst (Consumes a c) (sym (take-put_mid-add i n k xs ys within fits)) (Consumes-trans a b c _ _ first second)

pub Appends-turn : (a b c : Option (List ℕ)) (i n : ℕ) (xs : List ℕ) → n ≤ length xs - i
    → Appends a b (take i xs) → Appends b c (take n (take (length xs - i) (drop i xs))) → Appends a c (take (i + n) xs)
Appends-turn a b c i n xs fits first second =
    let rest : take n (take (length xs - i) (drop i xs)) ≡ take n (drop i xs) = take-take n (length xs - i) (drop i xs) fits in
    subst (Appends a c) (ap (λ ys. take i xs ++ ys) rest ∙ sym (take-add i n xs)) (Appends-trans a b c _ _ first second)
