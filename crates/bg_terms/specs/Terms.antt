-- Terms: expressions in which each reference stands for its definition, and each argument for its value.
use Rattle.std.specs.Prelude.{ℕ, Bool, List}
use Rattle.bg_base.specs.declared.signature.Control.{Control}
use Rattle.bg_values.specs.declared.refusal.Refusal.{Refusal}
use Rattle.bg_terms.specs.declared.shape.BinaryOperation.{BinaryOperation}

-- a term, form by form; the first number of a form is its token, as in an expression
pub data Term : Type 0 where
  -- evaluation is refused here
  refusal : Refusal → Term
  node : ℕ → Control → List (List ℕ) → Term
  names : ℕ → List (List ℕ) → Term
  identity_of : ℕ → ℕ → List (List ℕ) → Term
  merger_of : ℕ → ℕ → Term
  barren : ℕ → Term
  empty : ℕ → Term
  -- brackets, or a reference: it counts as a term beside those in it
  counted : ℕ → Term → Term
  deeper : ℕ → Term → Term
  closure : ℕ → List ℕ → Term → Term
  nesting : ℕ → Bool → Term → Term → Term
  binary : BinaryOperation → ℕ → Term → Term → Term
