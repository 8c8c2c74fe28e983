-- Reading one after the other, as a loop does.
use Rattle.std.proofs.Common.{◌≡◌, ℕ, suc, ◌-◌, ◌+◌, ◌≤◌, ◌<◌, List, [], ◌∷◌, ◌++◌, Some, None, Result, Ok, Err, refl, sym, ap, ◌∙◌, append_assoc, arith}
use Rattle.std.proofs.lemmas.List.{append-nil}
use Rattle.bg_listing.specs.declared.fault.PartFault.{PartFault}
use Rattle.bg_listing.specs.declared.fault.PartFault.TheVariants as part
use Rattle.bg_listing.specs.declared.fault.LineFault.{LineFault}
use Rattle.bg_listing.specs.declared.fault.LineFault.TheVariants as lines
use Rattle.bg_listing.specs.Lines.{Bad}
use Rattle.bg_listing.specs.Answers.{Fails, FailsLines}
use Rattle.bg_listing.specs.Combinators.{with_front, next, chain_within, each}

regroup : {A E : Type 0} (front : List A) (a : A) (read : Result (List A × List ℕ) E) → with_front front (with_front (a ∷ []) read) ≡ with_front (front ++ a ∷ []) read
regroup front a (Ok x) = ap (λ ys. Ok (ys, x.1)) (simp append_assoc)
regroup front a (Err e) = refl

-- ---- chains

pub chain_goes_on : {A : Type 0} (closing separator : ℕ) (read : List ℕ → Result (A × List ℕ) (Unit {0})) (front : List A) (count i : ℕ) (bytes : List ℕ) (a : A) (behind : List ℕ) (total : Result (List A × List ℕ) (Unit {0}))
    → i < count → next closing separator read bytes ≡ Ok (Some a, behind) → with_front front (chain_within closing separator read (count - i) bytes) ≡ total
    → with_front (front ++ a ∷ []) (chain_within closing separator read (count - (i + 1)) behind) ≡ total
unfolding chain_within
chain_goes_on closing separator read front count i bytes a behind total lt h so_far =
    let k : count - i ≡ suc (count - (i + 1)) = omega arith in
    let one : with_front front (chain_within closing separator read (count - i) bytes) ≡ with_front (front ++ a ∷ []) (chain_within closing separator read (count - (i + 1)) behind) =
    rw (k, h) (regroup front a (chain_within closing separator read (count - (i + 1)) behind)) in
    sym one ∙ so_far

pub chain_closes : {A : Type 0} (closing separator : ℕ) (read : List ℕ → Result (A × List ℕ) (Unit {0})) (front : List A) (count i : ℕ) (bytes behind : List ℕ) (total : Result (List A × List ℕ) (Unit {0}))
    → i < count → next closing separator read bytes ≡ Ok (None, behind) → with_front front (chain_within closing separator read (count - i) bytes) ≡ total → total ≡ Ok (front, behind)
unfolding chain_within
chain_closes closing separator read front count i bytes behind total lt h so_far =
    let k : count - i ≡ suc (count - (i + 1)) = omega arith in
    let one : with_front front (chain_within closing separator read (count - i) bytes) ≡ Ok (front, behind) = rw (k, h) (ap (λ ys. Ok (ys, behind)) (append-nil front)) in
    sym so_far ∙ one

pub chain_fails : {A : Type 0} (closing separator : ℕ) (read : List ℕ → Result (A × List ℕ) (Unit {0})) (front : List A) (count i : ℕ) (bytes : List ℕ) (fault : PartFault) (total : Result (List A × List ℕ) (Unit {0}))
    → i < count → Fails fault (next closing separator read bytes) → with_front front (chain_within closing separator read (count - i) bytes) ≡ total → Fails fault total
unfolding chain_within
chain_fails closing separator read front count i bytes part.OutOfMemory total lt h so_far = tt
chain_fails closing separator read front count i bytes part.NotThere total lt h so_far =
    let k : count - i ≡ suc (count - (i + 1)) = omega arith in
    let one : with_front front (chain_within closing separator read (count - i) bytes) ≡ Err tt = rw (k, h) refl in
    sym so_far ∙ one

pub chain_too_long : {A : Type 0} (closing separator : ℕ) (read : List ℕ → Result (A × List ℕ) (Unit {0})) (front : List A) (count i : ℕ) (bytes : List ℕ) (total : Result (List A × List ℕ) (Unit {0}))
    → count ≤ i → with_front front (chain_within closing separator read (count - i) bytes) ≡ total → total ≡ Err tt
unfolding chain_within
chain_too_long closing separator read front count i bytes total le so_far =
    let k : count - i ≡ 0 = omega arith in
    let one : with_front front (chain_within closing separator read (count - i) bytes) ≡ Err tt = rw k refl in
    sym so_far ∙ one

-- ---- rows

pub rows_go_on : {A : Type 0} (read : List ℕ → Result (A × List ℕ) Bad) (front : List A) (count i : ℕ) (bytes : List ℕ) (a : A) (behind : List ℕ) (total : Result (List A × List ℕ) Bad)
    → i < count → read bytes ≡ Ok (a, behind) → with_front front (each read (count - i) bytes) ≡ total → with_front (front ++ a ∷ []) (each read (count - (i + 1)) behind) ≡ total
unfolding each
rows_go_on read front count i bytes a behind total lt h so_far =
    let k : count - i ≡ suc (count - (i + 1)) = omega arith in
    let one : with_front front (each read (count - i) bytes) ≡ with_front (front ++ a ∷ []) (each read (count - (i + 1)) behind) = rw (k, h) (regroup front a (each read (count - (i + 1)) behind)) in
    sym one ∙ so_far

pub rows_fail : {A : Type 0} (read : List ℕ → Result (A × List ℕ) Bad) (front : List A) (count i : ℕ) (bytes : List ℕ) (fault : LineFault) (total : Result (List A × List ℕ) Bad)
    → i < count → FailsLines fault (read bytes) → with_front front (each read (count - i) bytes) ≡ total → FailsLines fault total
unfolding each
rows_fail read front count i bytes lines.OutOfMemory total lt h so_far = tt
rows_fail read front count i bytes (lines.Bad code left) total lt h so_far =
    let k : count - i ≡ suc (count - (i + 1)) = omega arith in
    let one : with_front front (each read (count - i) bytes) ≡ Err (record { code = code; left = left }) = rw (k, h) refl in
    sym so_far ∙ one

pub rows_done : {A : Type 0} (read : List ℕ → Result (A × List ℕ) Bad) (front : List A) (count i : ℕ) (bytes : List ℕ) (total : Result (List A × List ℕ) Bad)
    → count ≤ i → with_front front (each read (count - i) bytes) ≡ total → total ≡ Ok (front, bytes)
unfolding each
rows_done read front count i bytes total le so_far =
    let k : count - i ≡ 0 = omega arith in
    let one : with_front front (each read (count - i) bytes) ≡ Ok (front, bytes) = rw k (ap (λ ys. Ok (ys, bytes)) (append-nil front)) in
    sym so_far ∙ one
