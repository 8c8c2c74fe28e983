-- What `==` computes of rows, bigraphs and signatures.
use Rattle.std.specs.Prelude.{◌≡◌, Bool, true, List, ◌↔◌}
use Rattle.std.specs.Cmp.Lexicographic.{pointwise}
use Rattle.bg_base.specs.declared.big.Big.{Big}
use Rattle.bg_base.specs.declared.signature.Control.{Control}
use Rattle.bg_base.specs.contracts.big.BigPartialEq.TheImpl as of_big
use Rattle.bg_base.specs.contracts.signature.ControlPartialEq.TheImpl as of_control

-- the comparison holds of the same alone
abbrev pub TellsTheSame : {T : Type 0} → (T → T → Bool) → Type 0
TellsTheSame {T} equal = (x y : T) → (equal x y ≡ true) ↔ (x ≡ y)

abbrev pub bigraphs_equal : Big → Big → Bool
bigraphs_equal = of_big.ghosts.eq

abbrev pub signatures_equal : List Control → List Control → Bool
signatures_equal = pointwise of_control.ghosts.eq
