-- Laws of tests and of what they are asked of: two Bools, a mark that may be missing.
use Rattle.std.proofs.Common.{◌≡◌, Bool, true, false, Option, Some, None, unwrap_or, option_map, refl, sym, ap}

-- tests that follow from one another are one
pub same_test : (a b : Bool) → (a ≡ true → b ≡ true) → (b ≡ true → a ≡ true) → a ≡ b
same_test true b to from = sym (to refl)
same_test false true to from = from refl
same_test false false to from = refl

module _ {X : Type 0} where
  -- where a test of what is perhaps not there passes, it is there
  pub some_from_unwrap : (test : X → Bool) (o : Option X) → unwrap_or (option_map test o) false ≡ true
      → (x : X) × (o ≡ Some x) × (test x ≡ true)
  some_from_unwrap test None e = cc
  some_from_unwrap test (Some x) e = (x, refl, e)

  -- a mark that is read is there
  pub given_mark : (mark : Option (Option X)) (x : X) → unwrap_or mark None ≡ Some x → mark ≡ Some (Some x)
  given_mark None x e = cc
  given_mark (Some mark) x e = ap Some e
