-- What stands in front of the bytes.
use Rattle.std.proofs.Common.{◌≡◌, ℕ, Bool, true, false, nat_eq, cond, eqb, List, [], ◌∷◌, length, take, drop, Ok, Err, refl}
use Rattle.std.specs.Cmp.Lexicographic.{pointwise}
use Rattle.std.proofs.lemmas.Bool.{and_parts}
use Rattle.bg_listing.specs.Combinators.{after}

pub after_starts : (word bytes : List ℕ) → pointwise nat_eq (take (length word) bytes) word ≡ true → after word bytes ≡ Ok (drop (length word) bytes)
after_starts [] bytes e = refl
after_starts (w ∷ ws) [] e = absurd cc
after_starts (w ∷ ws) (b ∷ bytes) e =
    let t = and_parts (nat_eq b w) (pointwise nat_eq (take (length ws) bytes) ws) e in
    rw t.0 (after_starts ws bytes t.1)

not_here : (w b : ℕ) (ws bytes : List ℕ) (same : Bool) → eqb b w ≡ same → (pointwise nat_eq (take (length ws) bytes) ws ≡ false → after ws bytes ≡ Err tt)
    → pointwise nat_eq (b ∷ take (length ws) bytes) (w ∷ ws) ≡ false → cond same (after ws bytes) (Err tt) ≡ Err tt
not_here w b ws bytes false s h e = refl
not_here w b ws bytes true s h e = h (rw s at e)

pub after_not : (word bytes : List ℕ) → pointwise nat_eq (take (length word) bytes) word ≡ false → after word bytes ≡ Err tt
after_not [] bytes e = absurd cc
after_not (w ∷ ws) [] e = refl
after_not (w ∷ ws) (b ∷ bytes) e = not_here w b ws bytes (eqb b w) refl (after_not ws bytes) e
