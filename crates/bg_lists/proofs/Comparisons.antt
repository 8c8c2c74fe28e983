-- Laws of a total comparison, and of the test `before` that it gives.
use Rattle.std.proofs.Common.{◌≡◌, ℕ, ◌<◌, ◌==◌, true, false, Ordering, Less, Equal, Greater, sym, ap, ◌∙◌, refl, arith, nat_cmp, is_lt, is_eq, eqb-true, eq-eqb}
use Rattle.std.specs.Ordering.{ordering_reverse, eq_by_cmp, ordering_then}
use Rattle.std.specs.Cmp.{IsTotalOrder}
use Rattle.std.proofs.lemmas.Cmp.{tied_itself}
use Rattle.std.proofs.lemmas.Bool.{false_from_ne_true}
use Rattle.std.proofs.lemmas.Bool.Decides.{nat_tests}
use Rattle.bg_lists.specs.Orders.{before}

pub Less-from_is_lt : (o : Ordering) → is_lt o ≡ true → o ≡ Less
Less-from_is_lt Less e = refl
Less-from_is_lt Equal e = cc
Less-from_is_lt Greater e = cc

pub Equal-from_is_eq : (o : Ordering) → is_eq o ≡ true → o ≡ Equal
Equal-from_is_eq Less e = cc
Equal-from_is_eq Equal e = refl
Equal-from_is_eq Greater e = cc

-- of two comparisons in turn, both say Equal where the whole does
pub both_equal : (o p : Ordering) → ordering_then o p ≡ Equal → (o ≡ Equal) × (p ≡ Equal)
both_equal Less p e = cc
both_equal Equal p e = (refl, e)
both_equal Greater p e = cc

flipped : (o p : Ordering) → o ≡ ordering_reverse p → is_lt p ≡ false → is_eq p ≡ false → o ≡ Less
flipped o Less e not_less not_equal = cc
flipped o Equal e not_less not_equal = cc
flipped o Greater e not_less not_equal = e

eq_flip : (o p : Ordering) → o ≡ ordering_reverse p → is_eq o ≡ is_eq p
eq_flip o Less e = ap is_eq e
eq_flip o Equal e = ap is_eq e
eq_flip o Greater e = ap is_eq e

-- equality of numbers, as a test and by the comparison
pub eqb-nat_cmp : (x y : ℕ) → (x == y) ≡ is_eq (nat_cmp x y)
eqb-nat_cmp x y = grind (arith, nat_tests)

-- two numbers that are equal, and two that differ
pub tied_numbers : (m n : ℕ) → m ≡ n → is_eq (nat_cmp m n) ≡ true
tied_numbers m n e = sym (eqb-nat_cmp m n) ∙ eq-eqb m n e

pub apart_numbers : (m n : ℕ) → (m ≡ n → ⊥) → is_eq (nat_cmp m n) ≡ false
apart_numbers m n differ =
    false_from_ne_true (is_eq (nat_cmp m n)) (λ e. differ (eqb-true m n (eqb-nat_cmp m n ∙ e)))

pub lt-from_nat_cmp : (x y : ℕ) → nat_cmp x y ≡ Less → x < y
lt-from_nat_cmp x y e = grind (arith, nat_tests)

pub nat_cmp-lt : (x y : ℕ) → x < y → nat_cmp x y ≡ Less
nat_cmp-lt x y e = grind (arith, nat_tests)

-- the test is true exactly where the comparison says Less
pub Less-from_before : {X : Type 0} (cmp : X → X → Ordering) (x y : X) → before cmp x y ≡ true → cmp x y ≡ Less
Less-from_before cmp x y e = Less-from_is_lt (cmp x y) e

pub before-Less : {X : Type 0} (cmp : X → X → Ordering) (x y : X) → cmp x y ≡ Less → before cmp x y ≡ true
before-Less cmp x y e = ap is_lt e

module _ {X : Type 0} {cmp : X → X → Ordering} (total : IsTotalOrder cmp) where
  -- of two that differ, the one that does not stand before the other stands behind it
  pub Less-from_not_before : (x y : X) → before cmp x y ≡ false → eq_by_cmp cmp x y ≡ false → cmp y x ≡ Less
  Less-from_not_before x y later apart = flipped (cmp y x) (cmp x y) (total.antisymm y x) later apart

  pub Less-not_itself : (x : X) → cmp x x ≡ Less → ⊥
  Less-not_itself x e = let same : Less ≡ Equal = sym e ∙ tied_itself total x in cc

  pub Less-not_back : (x y : X) → cmp x y ≡ Less → cmp y x ≡ Less → ⊥
  Less-not_back x y e f = Less-not_itself x (total.trans x y x e f)

  pub Less-apart : (x y : X) → cmp x y ≡ Less → eq_by_cmp cmp x y ≡ false
  Less-apart x y e = ap is_eq e

  pub apart_back : (x y : X) → eq_by_cmp cmp x y ≡ eq_by_cmp cmp y x
  apart_back x y = eq_flip (cmp x y) (cmp y x) (total.antisymm x y)
