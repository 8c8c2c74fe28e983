-- The steps of a formula, and what they do with a stack.
use Rattle.std.specs.Prelude.{◌≡◌, ℕ, List, [], ◌∷◌, ◌++◌, Result, Ok, slice_get}
use Rattle.bg_base.specs.declared.labels.Value.{Value}
use Rattle.bg_base.specs.declared.labels.Value.TheVariants as values
use Rattle.bg_values.specs.declared.formula.Operator.{Operator}
use Rattle.bg_values.specs.declared.formula.FormulaStep.{FormulaStep}
use Rattle.bg_values.specs.declared.formula.FormulaStep.TheVariants.{Whole, Words, Name, Negate, Apply}
use Rattle.bg_values.specs.declared.formula.Formula.{Formula as Code}
use Rattle.bg_values.specs.declared.refusal.Refusal.{Refusal}
use Rattle.bg_values.specs.declared.refusal.Cause.TheVariants.{Unexpected, UnknownName}
use Rattle.bg_values.specs.Arithmetic.{Formula, whole, words, name, negation, operation, whole_of, negated, applied}
use Rattle.bg_values.specs.Outcome.{◌>>=◌, there_or}
use Rattle.bg_values.specs.Stacks.{first, rest}

-- the steps of a formula
abbrev pub code_of : Formula → List FormulaStep
code_of (whole z) = Whole z ∷ []
code_of (words text) = Words text ∷ []
code_of (name at number) = Name at number ∷ []
code_of (negation at operand f) = code_of f ++ Negate at operand ∷ []
code_of (operation operator at left f right g) = code_of f ++ (code_of g ++ Apply operator at left right ∷ [])

-- the steps are those of the formula
abbrev pub IsCodeOf : Formula → Code → Type 0
IsCodeOf formula code = code.steps.items ≡ code_of formula

-- the value on top of the stack
abbrev pub top : List Value → Result Value Refusal
top stack = there_or Unexpected 0 (first stack)

-- the values below it
abbrev pub below : List Value → List Value
below stack = rest stack

-- a value put on top
abbrev pub put : Value → List Value → Result (List Value) Refusal
put value stack = Ok (value ∷ stack)

-- the value of the visible name with that number; `at` is its token
abbrev pub named : List Value → ℕ → ℕ → Result Value Refusal
named env at number = there_or UnknownName at (slice_get env number)

-- the same, put on top
abbrev pub put_name : List Value → ℕ → ℕ → List Value → Result (List Value) Refusal
put_name env at number stack = named env at number >>= λ v. put v stack

-- the number on top with the other sign; `operand` is the first token of the operand
abbrev pub negate : ℕ → ℕ → List Value → Result (List Value) Refusal
negate at operand stack =
    top stack >>= λ v. whole_of operand v >>= λ x. negated at x >>= λ z. put (values.Int z) (below stack)

-- the two numbers on top give way to what the operator gives; `left` and `right` are the first tokens of its operands
abbrev pub apply : Operator → ℕ → ℕ → ℕ → List Value → Result (List Value) Refusal
apply operator at left right stack =
    top stack >>= λ w. top (below stack) >>= λ v. whole_of left v >>= λ x. whole_of right w >>= λ y.
    applied operator at x y >>= λ z. put (values.Int z) (below (below stack))

-- one step
abbrev pub step : List Value → FormulaStep → List Value → Result (List Value) Refusal
step env (Whole z) stack = put (values.Int z) stack
step env (Words text) stack = put (values.Words text) stack
step env (Name at number) stack = put_name env at number stack
step env (Negate at operand) stack = negate at operand stack
step env (Apply operator at left right) stack = apply operator at left right stack

-- steps in order
abbrev pub run : List Value → List FormulaStep → List Value → Result (List Value) Refusal
run env [] stack = Ok stack
run env (s ∷ steps) stack = step env s stack >>= run env steps

-- what steps leave on top of an empty stack
abbrev pub outcome : List Value → List FormulaStep → Result Value Refusal
outcome env steps = run env steps [] >>= top
