-- Numbers in a row: which they are, how many, in their order, and one more.
use Rattle.std.proofs.Common.{◌≡◌, ℕ, zero, suc, ◌+◌, ◌≤◌, ◌<◌, [], ◌∷◌, ◌++◌, length, slice_get, Some, nat_cmp, Less, refl, ap, ◌∙◌, arith}
use Rattle.bg_lists.specs.Lists.{Mem, here, there}
use Rattle.bg_lists.specs.Orders.{Ascending, asc_nil, asc_cons}
use Rattle.bg_lists.proofs.Comparisons.{nat_cmp-lt}
use Rattle.bg_base.specs.Elementary.{counted}

pub Mem-counted : (first count : ℕ) (n : ℕ) → Mem n (counted first count) → (first ≤ n) × (n < first + count)
unfolding counted
Mem-counted first zero n m = elim m [ ]
Mem-counted first (suc count) n (here e) = (omega arith, omega arith)
Mem-counted first (suc count) n (there m) = let w = Mem-counted (suc first) count n m in (omega (arith, w.0), omega (arith, w.1))

pub length-counted : (first count : ℕ) → length (counted first count) ≡ count
unfolding counted
length-counted first zero = refl
length-counted first (suc count) = ap suc (length-counted (suc first) count)

-- which of them stands at a place
pub slice_get-counted : (first count place : ℕ) → place < count → slice_get (counted first count) place ≡ Some (first + place)
unfolding counted
slice_get-counted first zero place l = absurd (omega (arith, l))
slice_get-counted first (suc count) zero l = ap Some (let e : first ≡ first + 0 = omega arith in e)
slice_get-counted first (suc count) (suc place) l =
    slice_get-counted (suc first) count place (omega (arith, l)) ∙ ap Some (let e : suc first + place ≡ first + suc place = omega arith in e)

pub counted_more : (first count : ℕ) → counted first (count + 1) ≡ counted first count ++ (first + count) ∷ []
unfolding counted
counted_more first zero = ap (λ n. n ∷ []) (let e : first ≡ first + 0 = omega arith in e)
counted_more first (suc count) =
    let e : suc first + count ≡ first + suc count = omega arith in
    let more : suc count + 1 ≡ suc (count + 1) = omega arith in
    ap (counted first) more ∙ ap (λ ns. first ∷ ns) (counted_more (suc first) count ∙ ap (λ n. counted (suc first) count ++ n ∷ []) e)

pub counted_ascends : (first count : ℕ) → Ascending (λ x y. nat_cmp x y ≡ Less) (counted first count)
unfolding counted
counted_ascends first zero = asc_nil
counted_ascends first (suc count) =
    asc_cons (λ n m. let w = Mem-counted (suc first) count n m in nat_cmp-lt first n (omega (arith, w.0))) (counted_ascends (suc first) count)
