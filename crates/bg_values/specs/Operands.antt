-- Several formulas in a row: the arguments of a control or a reference, the values of a parameter.
use Rattle.std.specs.Prelude.{◌≡◌, ℕ, List, ◌∷◌, ◌++◌, map, Result, Ok, Err}
use Rattle.std.specs.Prelude.{Vec}
use Rattle.std.specs.Global.{Global}
use Rattle.bg_base.specs.declared.labels.Value.{Value}
use Rattle.bg_base.specs.declared.labels.Value.TheVariants.{Int}
use Rattle.bg_trees.specs.declared.arithmetic.SynX.{SynX}
use Rattle.bg_trees.specs.declared.arithmetic.SynMoreXItem.{SynMoreXItem}
use Rattle.bg_values.specs.declared.formula.FormulaStep.{FormulaStep}
use Rattle.bg_values.specs.declared.operands.Operand.{Operand as Code}
use Rattle.bg_values.specs.declared.refusal.Refusal.{Refusal}
use Rattle.bg_values.specs.declared.refusal.Stop.{Stop}
use Rattle.bg_values.specs.Arithmetic.{Formula, value, whole_of}
use Rattle.bg_values.specs.Machine.{code_of, outcome}
use Rattle.bg_values.specs.Outcome.{◌>>=◌, each, Stops}
use Rattle.bg_values.specs.Reading.{x_read}
use Rattle.bg_values.specs.Scopes.{ScopeParts}

-- the first token of a formula, and the formula
abbrev pub Operand : Type 0
Operand = ℕ × Formula

-- the trees of a list
abbrev pub trees_of : List SynMoreXItem → List SynX
trees_of items = map (λ (item : SynMoreXItem). item.part2) items

-- the trees of a list, the first of which stands before the items
abbrev pub trees : SynX → List SynMoreXItem → List SynX
trees x items = x ∷ trees_of items

-- what the tree says, with its first token
abbrev pub operand_read : ScopeParts → SynX → Result Operand Refusal
operand_read scope x = (x_read x).1 scope >>= λ f. Ok ((x_read x).0, f)

-- what the trees say, in order
abbrev pub operands_read : ScopeParts → List SynX → Result (List Operand) Refusal
operands_read scope = each (operand_read scope)

-- what the formulas come to, where the visible names have these values
abbrev pub values : List Value → List Operand → Result (List Value) Refusal
values env = each (λ f. value env f.1)

-- the number that a formula comes to
abbrev pub number : List Value → Operand → Result Value Refusal
number env f = value env f.1 >>= λ v. whole_of f.0 v >>= λ z. Ok (Int z)

-- the numbers that the formulas come to
abbrev pub numbers : List Value → List Operand → Result (List Value) Refusal
numbers env = each (number env)

-- the formula as its steps
abbrev pub coded : Operand → ℕ × List FormulaStep
coded f = (f.0, code_of f.1)

-- an operand of the code as its first token and its steps
abbrev pub shown : Code → ℕ × List FormulaStep
shown operand = (operand.first, operand.formula.steps.items)

-- what formulas come to, each by its first token and its steps
abbrev pub outcomes : List Value → List (ℕ × List FormulaStep) → Result (List Value) Refusal
outcomes env = each (λ f. outcome env f.1)

-- these are the formulas, as their steps
abbrev pub AreCodesOf : List Operand → List Code → Type 0
AreCodesOf fs operands = map shown operands ≡ map coded fs

-- a call gives the formula that is read, or stops
abbrev pub ReadsOne : Result Code Stop → Result Operand Refusal → Type 0
ReadsOne (Ok operand) read = (f : Operand) × (read ≡ Ok f) × (shown operand ≡ coded f)
ReadsOne (Err stop) read = Stops stop read

-- behind the formulas that are there come those that are read, or the call stops
abbrev pub ReadsBehind : {X : Type 0} → Result X Stop → List Code → List Operand → Result (List Operand) Refusal → Type 0
ReadsBehind (Ok x) new done read = (fs : List Operand) × (read ≡ Ok fs) × AreCodesOf (done ++ fs) new
ReadsBehind (Err stop) new done read = Stops stop read

-- a call adds the formulas that are read
abbrev pub Adds : {X : Type 0} → Result X Stop → List Code → List Code → Result (List Operand) Refusal → Type 0
Adds result old new read = (done : List Operand) → AreCodesOf done old → ReadsBehind result new done read

-- a call gives the formulas that are read, or stops
abbrev pub ReadsAll : Result (Vec Code Global) Stop → Result (List Operand) Refusal → Type 0
ReadsAll (Ok operands) read = (fs : List Operand) × (read ≡ Ok fs) × AreCodesOf fs operands.items
ReadsAll (Err stop) read = Stops stop read

-- a call gives the wanted list, or the wanted refusal, or found no memory
abbrev pub GivesList : {X : Type 0} → Result (Vec X Global) Stop → Result (List X) Refusal → Type 0
GivesList (Ok list) wanted = wanted ≡ Ok list.items
GivesList (Err stop) wanted = Stops stop wanted
