-- The steps of a formula leave what it comes to on the stack.
use Rattle.std.proofs.Common.{◌≡◌, ℕ, List, [], ◌∷◌, ◌++◌, Option, Some, None, Result, Ok, Err, ℤ, refl, sym, ap, ◌∙◌, slice_get}
use Rattle.bg_base.specs.declared.labels.Value.{Value}
use Rattle.bg_base.specs.declared.labels.Value.TheVariants.{Int}
use Rattle.bg_values.specs.declared.formula.Operator.{Operator}
use Rattle.bg_values.specs.declared.formula.FormulaStep.{FormulaStep}
use Rattle.bg_values.specs.declared.formula.FormulaStep.TheVariants as steps
use Rattle.bg_values.specs.declared.refusal.Refusal.{Refusal}
use Rattle.bg_values.specs.declared.refusal.Stop.{Stop}
use Rattle.bg_values.specs.declared.refusal.Cause.TheVariants.{UnknownName}
use Rattle.bg_values.specs.Arithmetic.{Formula, whole, words, name, negation, operation, value, whole_of, negated, applied}
use Rattle.bg_values.specs.Machine.{code_of, run, step, top, put}
use Rattle.bg_values.specs.declared.refusal.Stop.TheVariants as refusals
use Rattle.bg_values.specs.Outcome.{◌>>=◌, there_or, Stops}
use Rattle.bg_values.proofs.Bindings.{bind_assoc, bind_same}

-- the value on top of the stack
abbrev onto : Result Value Refusal → List Value → Result (List Value) Refusal
onto r stack = r >>= λ v. Ok (v ∷ stack)

pub run_append : (env : List Value) (xs ys : List FormulaStep) (stack : List Value)
    → run env (xs ++ ys) stack ≡ run env xs stack >>= run env ys
run_append env [] ys stack = refl
run_append env (x ∷ xs) ys stack =
    bind_same (step env x stack) (run env (xs ++ ys)) (λ s. run env xs s >>= run env ys) (λ s. run_append env xs ys s)
    ∙ sym (bind_assoc (step env x stack) (run env xs) (run env ys))

name_go : (at : ℕ) (found : Option Value) (stack : List Value)
    → (there_or UnknownName at found >>= λ v. put v stack) >>= (λ s. Ok s) ≡ onto (there_or UnknownName at found) stack
name_go at (Some v) stack = refl
name_go at None stack = refl

-- a number on top, once it is made
made_go : (env : List Value) (m : Result ℤ Refusal) (stack : List Value)
    → (m >>= λ z. put (Int z) stack) >>= run env [] ≡ onto (m >>= λ z. Ok (Int z)) stack
made_go env (Ok z) stack = refl
made_go env (Err e) stack = refl

negated_go : (env : List Value) (at : ℕ) (n : Result ℤ Refusal) (stack : List Value)
    → (n >>= λ x. negated at x >>= λ z. put (Int z) stack) >>= run env [] ≡ onto (n >>= λ x. negated at x >>= λ z. Ok (Int z)) stack
negated_go env at (Ok x) stack = made_go env (negated at x) stack
negated_go env at (Err e) stack = refl

negation_go : (env : List Value) (at operand : ℕ) (r : Result Value Refusal) (stack : List Value)
    → onto r stack >>= run env (steps.Negate at operand ∷ [])
    ≡ onto (r >>= λ v. whole_of operand v >>= λ x. negated at x >>= λ z. Ok (Int z)) stack
negation_go env at operand (Ok v) stack = negated_go env at (whole_of operand v) stack
negation_go env at operand (Err e) stack = refl

second_go : (env : List Value) (operator : Operator) (at : ℕ) (x : ℤ) (n : Result ℤ Refusal) (stack : List Value)
    → (n >>= λ y. applied operator at x y >>= λ z. put (Int z) stack) >>= run env []
    ≡ onto (n >>= λ y. applied operator at x y >>= λ z. Ok (Int z)) stack
second_go env operator at x (Ok y) stack = made_go env (applied operator at x y) stack
second_go env operator at x (Err e) stack = refl

first_go : (env : List Value) (operator : Operator) (at : ℕ) (m n : Result ℤ Refusal) (stack : List Value)
    → (m >>= λ x. n >>= λ y. applied operator at x y >>= λ z. put (Int z) stack) >>= run env []
    ≡ onto (m >>= λ x. n >>= λ y. applied operator at x y >>= λ z. Ok (Int z)) stack
first_go env operator at (Ok x) n stack = second_go env operator at x n stack
first_go env operator at (Err e) n stack = refl

-- what an operation of these two values comes to
abbrev outcome : Operator → ℕ → ℕ → ℕ → Value → Value → Result Value Refusal
outcome operator at left right v w =
    whole_of left v >>= λ x. whole_of right w >>= λ y. applied operator at x y >>= λ z. Ok (Int z)

right_go : (env : List Value) (operator : Operator) (at left right : ℕ) (v : Value) (s : Result Value Refusal) (stack : List Value)
    → onto s (v ∷ stack) >>= run env (steps.Apply operator at left right ∷ []) ≡ onto (s >>= outcome operator at left right v) stack
right_go env operator at left right v (Ok w) stack = first_go env operator at (whole_of left v) (whole_of right w) stack
right_go env operator at left right v (Err e) stack = refl

left_go : (env : List Value) (operator : Operator) (at left right : ℕ) (r s : Result Value Refusal) (code : List FormulaStep) (stack : List Value)
    → ((below : List Value) → run env code below ≡ onto s below)
    → onto r stack >>= run env (code ++ steps.Apply operator at left right ∷ [])
    ≡ onto (r >>= λ v. s >>= outcome operator at left right v) stack
left_go env operator at left right (Ok v) s code stack right_runs =
    run_append env code (steps.Apply operator at left right ∷ []) (v ∷ stack)
    ∙ ap (λ r. r >>= run env (steps.Apply operator at left right ∷ [])) (right_runs (v ∷ stack))
    ∙ right_go env operator at left right v s stack
left_go env operator at left right (Err e) s code stack right_runs = refl

pub runs : (env : List Value) (f : Formula) (stack : List Value) → run env (code_of f) stack ≡ onto (value env f) stack
runs env (whole z) stack = refl
runs env (words text) stack = refl
runs env (name at number) stack = name_go at (slice_get env number) stack
runs env (negation at operand f) stack =
    run_append env (code_of f) (steps.Negate at operand ∷ []) stack
    ∙ ap (λ r. r >>= run env (steps.Negate at operand ∷ [])) (runs env f stack)
    ∙ negation_go env at operand (value env f) stack
runs env (operation operator at left f right g) stack =
    run_append env (code_of f) (code_of g ++ steps.Apply operator at left right ∷ []) stack
    ∙ ap (λ r. r >>= run env (code_of g ++ steps.Apply operator at left right ∷ [])) (runs env f stack)
    ∙ left_go env operator at left right (value env f) (value env g) (code_of g) stack (runs env g)

-- a run on the empty stack and a look at the top give what the formula comes to
pub evaluated : (env : List Value) (f : Formula) → run env (code_of f) [] >>= top ≡ value env f
evaluated env f = ap (λ r. r >>= top) (runs env f []) ∙ seen (value env f)
  where
    seen : (r : Result Value Refusal) → onto r [] >>= top ≡ r
    seen (Ok v) = refl
    seen (Err e) = refl

-- a run that stopped stops the evaluation
pub when_stopped : (env : List Value) (f : Formula) (code : List FormulaStep) (stop : Stop) → code ≡ code_of f
    → Stops stop (run env code []) → Stops stop (value env f)
when_stopped env f code (refusals.Refused refusal) same stops =
    sym (evaluated env f) ∙ ap (λ xs. run env xs [] >>= top) (sym same) ∙ ap (λ r. r >>= top) stops
when_stopped env f code refusals.OutOfMemory same stops = tt

-- a run that ended leaves what the formula comes to on top
pub when_run : (env : List Value) (f : Formula) (code : List FormulaStep) (stack : List Value) → code ≡ code_of f
    → run env code [] ≡ Ok stack → top stack ≡ value env f
when_run env f code stack same ends =
    sym (ap (λ r. r >>= top) ends) ∙ ap (λ xs. run env xs [] >>= top) same ∙ evaluated env f
