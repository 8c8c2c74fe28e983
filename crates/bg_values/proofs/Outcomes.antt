-- Formulas by their steps come to what they come to.
use Rattle.std.proofs.Common.{◌≡◌, ◌++◌, Ok, refl, ap, ◌∙◌, List, [], ◌∷◌, map, length, append-nil}
use Rattle.bg_values.specs.declared.operands.Operand.{Operand as Code}
use Rattle.bg_base.specs.declared.labels.Value.{Value}
use Rattle.bg_values.specs.Arithmetic.{value}
use Rattle.bg_values.specs.Operands.{Operand, coded, shown, values, outcomes}
use Rattle.bg_values.specs.Outcome.{◌>>=◌}
use Rattle.bg_values.proofs.Runs.{evaluated}

pub outcomes_coded : (env : List Value) (fs : List Operand) → outcomes env (map coded fs) ≡ values env fs
outcomes_coded env [] = refl
outcomes_coded env (f ∷ fs) =
    ap (λ r. r >>= λ v. outcomes env (map coded fs) >>= λ vs. Ok (v ∷ vs)) (evaluated env f.1)
    ∙ ap (λ r. value env f.1 >>= λ v. r >>= λ vs. Ok (v ∷ vs)) (outcomes_coded env fs)

-- no formula is left
pub outcomes_end : (env : List Value) (others : List Code) (found : List Value) → length others ≡ 0
    → (outcomes env (map shown others) >>= λ vs. Ok (found ++ vs)) ≡ Ok found
outcomes_end env [] found none = ap Ok (append-nil found)
outcomes_end env (other ∷ others) found none = absurd cc
