-- The steps of a formula behind others.
use Rattle.std.specs.Prelude.{◌≡◌, List, ◌++◌, Result, Ok, Err}
use Rattle.bg_values.specs.declared.formula.FormulaStep.{FormulaStep}
use Rattle.bg_values.specs.declared.formula.Formula.{Formula as Code}
use Rattle.bg_values.specs.declared.refusal.Refusal.{Refusal}
use Rattle.bg_values.specs.declared.refusal.Stop.{Stop}
use Rattle.bg_values.specs.Arithmetic.{Formula}
use Rattle.bg_values.specs.Machine.{code_of, IsCodeOf}
use Rattle.bg_values.specs.Outcome.{◌>>=◌, Goes, Stops}

-- the steps of what is read, behind these; `code` gives them
abbrev pub behind : {S F : Type 0} → (F → List S) → List S → Result F Refusal → Result (List S) Refusal
behind code base read = read >>= λ f. Ok (base ++ code f)

-- the steps of the formula that is read, behind these
abbrev pub lowered : List FormulaStep → Result Formula Refusal → Result (List FormulaStep) Refusal
lowered = behind code_of

-- behind the steps of a formula f come those that make the formula of it that an item says
abbrev pub Extends : {X : Type 0} → Result X Stop → List FormulaStep → List FormulaStep → (Formula → Result Formula Refusal) → Type 0
Extends result old new item = (base : List FormulaStep) (f : Formula) → old ≡ base ++ code_of f → Goes result new (lowered base (item f))

-- a call gives the steps of the formula that is read, or stops
abbrev pub GivesSteps : Result Code Stop → Result Formula Refusal → Type 0
GivesSteps (Ok code) read = (f : Formula) × (read ≡ Ok f) × IsCodeOf f code
GivesSteps (Err stop) read = Stops stop read
