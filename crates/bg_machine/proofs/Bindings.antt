-- Operations of two lists in a row, and none.
use Rattle.std.proofs.Common.{◌≡◌, Result, Ok, Err, refl, sym, ◌∙◌, List, [], ◌∷◌, ◌++◌}
use Rattle.bg_base.specs.declared.labels.Value.{Value}
use Rattle.bg_code.specs.declared.operation.Operation.{Operation}
use Rattle.bg_machine.specs.States.{State}
use Rattle.bg_machine.specs.Machine.{Running, step, run}
use Rattle.bg_terms.specs.declared.shape.Shape.{Shape}
use Rattle.bg_values.specs.declared.refusal.Refusal.{Refusal}
use Rattle.bg_values.specs.Outcome.{◌>>=◌}
use Rattle.bg_values.proofs.Bindings.{bind_assoc, bind_same}

module _ (shapes : List Shape) (running : List Running) (env : List Value) where
  pub run_append : (xs ys : List Operation) (s : State)
      → run shapes running env (xs ++ ys) s ≡ run shapes running env xs s >>= run shapes running env ys
  run_append [] ys s = refl
  run_append (x ∷ xs) ys s =
      bind_same (step shapes running env x s) (run shapes running env (xs ++ ys)) (λ t. run shapes running env xs t >>= run shapes running env ys)
      (λ t. run_append xs ys t)
      ∙ sym (bind_assoc (step shapes running env x s) (run shapes running env xs) (run shapes running env ys))

  -- no operation is left
  pub run_none : (r : Result State Refusal) → r >>= run shapes running env [] ≡ r
  run_none (Ok s) = refl
  run_none (Err e) = refl
