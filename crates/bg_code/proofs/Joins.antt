-- The operations of a binary operation behind those of its left operand.
use Rattle.std.proofs.Common.{◌≡◌, ◌++◌, ◌∷◌, [], ℕ, List, Result, Ok, Err, sym, ap, ◌∙◌, append_assoc}
use Rattle.bg_code.specs.declared.operation.Operation.{Operation}
use Rattle.bg_code.specs.declared.operation.Operation.TheVariants.{Join}
use Rattle.bg_code.specs.Code.{code_of}
use Rattle.bg_code.specs.Lowering.{lowered}
use Rattle.bg_terms.specs.declared.shape.BinaryOperation.{BinaryOperation}
use Rattle.bg_terms.specs.Expressions.{Expression, binary}
use Rattle.bg_terms.specs.Trees.{Reading, Visible, binary_read}
use Rattle.bg_values.specs.declared.refusal.Refusal.{Refusal}
use Rattle.bg_values.specs.declared.refusal.Stop.{Stop}
use Rattle.bg_values.specs.declared.refusal.Stop.TheVariants.{Refused, OutOfMemory}
use Rattle.bg_values.specs.Outcome.{◌>>=◌, Stops}

module _ (kind : BinaryOperation) (at : ℕ) (right : Reading) (visible : Visible) (base code : List Operation) (e : Expression) (starts : code ≡ base ++ code_of e) where
  -- the right operand was lowered
  pub joined_made : (made : List Operation) → lowered code (right.1 visible) ≡ Ok made
      → lowered base (binary_read kind at right visible e) ≡ Ok (made ++ Join kind at ∷ [])
  joined_made made = by (right.1 visible)
    where
      by : (r : Result Expression Refusal) → lowered code r ≡ Ok made → lowered base (r >>= λ d. Ok (binary kind at e d)) ≡ Ok (made ++ Join kind at ∷ [])
      by (Ok d) is =
          let same : code ++ code_of d ≡ made = cc in
          ap Ok (sym (append_assoc base (code_of e) (code_of d ++ Join kind at ∷ []))
          ∙ sym (append_assoc (base ++ code_of e) (code_of d) (Join kind at ∷ []))
          ∙ ap (λ c. (c ++ code_of d) ++ Join kind at ∷ []) (sym starts)
          ∙ ap (λ c. c ++ Join kind at ∷ []) same)
      by (Err refusal) is = absurd cc

  -- the right operand is refused
  pub joined_stops : (stop : Stop) → Stops stop (lowered code (right.1 visible)) → Stops stop (lowered base (binary_read kind at right visible e))
  joined_stops stop = by stop (right.1 visible)
    where
      by : (s : Stop) (r : Result Expression Refusal) → Stops s (lowered code r) → Stops s (lowered base (r >>= λ d. Ok (binary kind at e d)))
      by (Refused refusal) (Ok d) is = absurd cc
      by (Refused refusal) (Err other) is = let same : other ≡ refusal = cc in ap Err same
      by OutOfMemory r is = tt
