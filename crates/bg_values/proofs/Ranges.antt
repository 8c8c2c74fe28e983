-- The numbers of a range, by their count.
use Rattle.std.proofs.Common.{mul-le-mul, ◌^◌, FitsSigned, to_z, of_z, w64, ◌≡◌, ◌++◌, ◌∷◌, [], ◌+◌, ◌*◌, ◌/◌, ◌<◌, ◌≤◌, ℕ, zero, suc, ℤ, pos, negsuc, ◌+ℤ◌, ◌-ℤ◌, ◌*ℤ◌, ◌≤ℤ◌, neg_ℤ, nat_abs, unsigned_abs, int_div, int_lt, Bool, true, false, ◌||◌, List, map, refl, sym, ap, ◌∙◌, arith}
use Rattle.std.specs.Int.{w128}
use Rattle.std.proofs.lemmas.List.{map-append}
use Rattle.std.proofs.lemmas.Nat.{div-add-mod'}
use Rattle.std.proofs.lemmas.Int.{ints, to_z-of_z, fits_signed_mul, unsigned_abs-mul}
use Rattle.bg_base.specs.Elementary.{counted}
use Rattle.bg_base.proofs.Counted.{counted_more}
use Rattle.bg_values.specs.Parameters.{is_empty, steps_between, count}

pub none_made : {X : Type 0} (f : ℕ → X) (made : List X) → made ≡ [] → made ≡ map f (counted 0 0)
unfolding counted
none_made f made is = is

-- one more was made
pub one_made : {X : Type 0} (f : ℕ → X) (made new : List X) (number : ℕ) (x : X) → made ≡ map f (counted 0 number) → x ≡ f number
    → new ≡ made ++ x ∷ [] → new ≡ map f (counted 0 (number + 1))
one_made f made new number x so_far is pushed =
    pushed ∙ ap (λ xs. xs ++ x ∷ []) so_far ∙ ap (λ y. map f (counted 0 number) ++ y ∷ []) (is ∙ ap f (let e : number ≡ 0 + number = omega arith in e))
    ∙ sym (map-append f (counted 0 number) ((0 + number) ∷ [])) ∙ ap (map f) (sym (counted_more 0 number))

-- a number that lies between the ends of a range
pub record Between (a b z : ℤ) : Type 0 where
  pub not_below : a ≤ℤ z
  pub not_above : z ≤ℤ b

between : (a b : ℤ) (n m : ℕ) → b -ℤ a ≡ pos n → m ≤ n → Between a b (a +ℤ pos m)
between a b n m is le = record { not_below = omega (arith, ints); not_above = omega (arith, ints, is) }

abs_neg : (n : ℕ) → nat_abs (neg_ℤ (pos n)) ≡ n
abs_neg zero = refl
abs_neg (suc n) = refl

few_steps : (n k i : ℕ) → i < suc (n / k) → i * k ≤ n
few_steps n k i l =
    let whole = div-add-mod' n k in
    let most : i ≤ n / k = omega (arith, l) in
    let product : i * k ≤ (n / k) * k = mul-le-mul most (let r : k ≤ k = omega arith in r) in
    omega (arith, whole, product)

-- the number after few enough steps lies between the ends
pub after_lies_between : (a s b : ℤ) (i : ℕ) → is_empty a s b ≡ false → i < count a s b → Between a b (a +ℤ (pos i *ℤ s))
after_lies_between a (negsuc k) b i filled l = absurd cc
after_lies_between a (pos k) b i filled l = by (b -ℤ a) refl (not_second (int_lt (pos k) (pos 1)) (int_lt b a) filled) l
  where
    not_second : (x y : Bool) → (x || y) ≡ false → y ≡ false
    not_second true y e = absurd cc
    not_second false y e = e

    by : (d : ℤ) → b -ℤ a ≡ d → int_lt b a ≡ false → i < suc (nat_abs (int_div d (pos k))) → Between a b (a +ℤ pos (i * k))
    by (pos n) is up few = between a b n (i * k) is (few_steps n k i few)
    by (negsuc n) is up few = let upward : a ≤ℤ b = grind (arith, ints, up) in absurd (omega (arith, ints, is, upward))

-- the steps, counted without a sign
pub steps_unsigned : (a s b : ℤ) → unsigned_abs (b -ℤ a) / unsigned_abs s ≡ steps_between a s b
steps_unsigned a s b = divided (b -ℤ a) s
  where
    divided : (x y : ℤ) → unsigned_abs x / unsigned_abs y ≡ nat_abs (int_div x y)
    divided (pos x) (pos y) = refl
    divided (pos x) (negsuc y) = sym (abs_neg (x / suc y))
    divided (negsuc x) (pos y) = sym (abs_neg (suc x / y))
    divided (negsuc x) (negsuc y) = refl

-- ---- the numbers of a range fit

abs_small : (z : ℤ) → FitsSigned w64 z → unsigned_abs z ≤ 2 ^ 63
abs_small (pos n) fits = omega (arith, fits.sfits)
abs_small (negsuc n) fits = omega (arith, fits.sfits)

wider : (z : ℤ) → FitsSigned w64 z → FitsSigned w128 z
wider (pos n) fits = record { sfits = omega (arith, fits.sfits) }
wider (negsuc n) fits = record { sfits = omega (arith, fits.sfits) }

product_fits : (s : ℤ) (i : ℕ) → i < 2 ^ 32 → FitsSigned w64 s → FitsSigned w128 (pos i *ℤ s)
product_fits s i small fits = fits_signed_mul w128 (pos i) s (2 ^ 32) (2 ^ 63) (omega (arith, small)) (abs_small s fits) (omega arith)

product_small : (s : ℤ) (i : ℕ) → i < 2 ^ 32 → FitsSigned w64 s → unsigned_abs (pos i *ℤ s) ≤ 2 ^ 32 * 2 ^ 63
product_small s i small fits =
    let product : i * unsigned_abs s ≤ 2 ^ 32 * 2 ^ 63 = mul-le-mul (let l : i ≤ 2 ^ 32 = omega (arith, small) in l) (abs_small s fits) in
    let abs = unsigned_abs-mul (pos i) s in
    omega (arith, abs, product)

sum_fits : (a p : ℤ) → FitsSigned w64 a → unsigned_abs p ≤ 2 ^ 32 * 2 ^ 63 → FitsSigned w128 (a +ℤ p)
sum_fits a (pos n) fits small = omega (arith, ints, fits)
sum_fits a (negsuc n) fits small = omega (arith, ints, fits)

-- the number after so many steps, as 128 bits hold it
pub number_whole : (a s : ℤ) (i : ℕ) (x y z : ℤ) → x ≡ a → y ≡ pos i → z ≡ s → i < 2 ^ 32 → FitsSigned w64 a → FitsSigned w64 s
    → to_z w128 (of_z w128 (to_z w128 (of_z w128 x) +ℤ to_z w128 (of_z w128 (to_z w128 (of_z w128 y) *ℤ to_z w128 (of_z w128 z)))))
    ≡ a +ℤ (pos i *ℤ s)
number_whole a s i x y z x_is y_is z_is small fits step_fits =
    let first : to_z w128 (of_z w128 x) ≡ a = ap (λ v. to_z w128 (of_z w128 v)) x_is ∙ to_z-of_z w128 a (wider a fits) in
    let turns : to_z w128 (of_z w128 y) ≡ pos i =
    ap (λ v. to_z w128 (of_z w128 v)) y_is ∙ to_z-of_z w128 (pos i) (record { sfits = omega (arith, small) }) in
    let step : to_z w128 (of_z w128 z) ≡ s = ap (λ v. to_z w128 (of_z w128 v)) z_is ∙ to_z-of_z w128 s (wider s step_fits) in
    (λ j. to_z w128 (of_z w128 (first j +ℤ to_z w128 (of_z w128 (turns j *ℤ step j)))))
    ∙ ap (λ p. to_z w128 (of_z w128 (a +ℤ p))) (to_z-of_z w128 (pos i *ℤ s) (product_fits s i small step_fits))
    ∙ to_z-of_z w128 (a +ℤ (pos i *ℤ s)) (sum_fits a (pos i *ℤ s) fits (product_small s i small step_fits))

-- what lies between the ends fits, as they do
pub between_fits : (a b z : ℤ) → FitsSigned w64 a → FitsSigned w64 b → Between a b z → FitsSigned w64 z
between_fits a b z first end between = omega (arith, ints, first, end, between.not_below, between.not_above)
