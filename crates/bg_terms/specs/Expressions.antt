-- Expressions of the model language, with their names looked up: a control and a definition are numbers, an argument is a
-- formula. The first number of a form is its token: the first one, or the operator.
use Rattle.std.specs.Prelude.{ℕ, Bool, List}
use Rattle.bg_terms.specs.declared.shape.BinaryOperation.{BinaryOperation}
use Rattle.bg_values.specs.Operands.{Operand}

-- an expression, form by form
pub data Expression : Type 0 where
  -- `K(..){a,b}`: a node of the control with that number, its arguments, and the names of its ports
  node : ℕ → ℕ → List Operand → List (List ℕ) → Expression
  -- `b(..)`: the definition with that number, and its arguments
  reference : ℕ → ℕ → List Operand → Expression
  -- `{x,y}`
  names : ℕ → List (List ℕ) → Expression
  -- `id(n,{x,y})`
  identity_of : ℕ → ℕ → List (List ℕ) → Expression
  -- `merge(n)`
  merger_of : ℕ → ℕ → Expression
  -- `1`, `0`
  barren : ℕ → Expression
  empty : ℕ → Expression
  -- `(F)`
  brackets : ℕ → Expression → Expression
  -- a `K` of the grammar: it is one deeper than the `K` that it stands in
  deeper : ℕ → Expression → Expression
  -- `/x F`
  closure : ℕ → List ℕ → Expression → Expression
  -- `F.G`, and whether F is written as an atom
  nesting : ℕ → Bool → Expression → Expression → Expression
  -- `G*F`, `F+G`, `F||G`, `F|G`
  binary : BinaryOperation → ℕ → Expression → Expression → Expression
