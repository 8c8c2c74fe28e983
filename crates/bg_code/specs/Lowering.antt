-- The operations of an expression behind others.
use Rattle.std.specs.Prelude.{◌≡◌, ℕ, List, ◌++◌, map, Result, Ok, Err, Vec}
use Rattle.std.specs.Global.{Global}
use Rattle.bg_code.specs.declared.operation.Operation.{Operation}
use Rattle.bg_code.specs.Code.{code_of}
use Rattle.bg_trees.specs.declared.names.SynMoreLowItem.{SynMoreLowItem}
use Rattle.bg_terms.specs.declared.shape.ControlEntry.{ControlEntry}
use Rattle.bg_terms.specs.Expressions.{Expression}
use Rattle.bg_terms.specs.Trees.{Visible}
use Rattle.bg_values.specs.declared.formula.FormulaStep.{FormulaStep}
use Rattle.bg_values.specs.declared.refusal.Refusal.{Refusal}
use Rattle.bg_values.specs.declared.refusal.Stop.{Stop}
use Rattle.bg_values.specs.declared.refusal.Cause.TheVariants.{UnknownName}
use Rattle.bg_values.specs.Names.{look_up}
use Rattle.bg_values.specs.Operands.{Operand, coded}
use Rattle.bg_values.specs.Lowering.{behind}
use Rattle.bg_values.specs.Outcome.{Goes, Stops, there_or}
use Rattle.bg_values.specs.Scopes.{spelling}

-- the control that a token names: its number and its entry
abbrev pub control_at : Visible → ℕ → Result (ℕ × ControlEntry) Refusal
control_at visible at = there_or UnknownName at (look_up (spelling visible.scope at) visible.controls)

-- the bigraph that a token names: its number, and how many formals it has
abbrev pub bigraph_at : Visible → ℕ → Result (ℕ × ℕ) Refusal
bigraph_at visible at = there_or UnknownName at (look_up (spelling visible.scope at) visible.bigraphs)

-- the tokens of the names behind the first
abbrev pub tokens_of : List SynMoreLowItem → List ℕ
tokens_of items = map (λ (item : SynMoreLowItem). item.part2) items

-- the operations of the expression that is read, behind these
abbrev pub lowered : List Operation → Result Expression Refusal → Result (List Operation) Refusal
lowered = behind code_of

-- behind the operations of an expression e come those that make the expression of it that an item says
abbrev pub Extends : {X : Type 0} → Result X Stop → List Operation → List Operation → (Expression → Result Expression Refusal) → Type 0
Extends result old new item = (base : List Operation) (e : Expression) → old ≡ base ++ code_of e → Goes result new (lowered base (item e))

-- a call gives the operations of the expression that is read, or stops
abbrev pub GivesOperations : Result (Vec Operation Global) Stop → Result Expression Refusal → Type 0
GivesOperations (Ok code) read = (e : Expression) × (read ≡ Ok e) × (code.items ≡ code_of e)
GivesOperations (Err stop) read = Stops stop read

-- a call gives the first tokens and the steps of the formulas that are read, or stops
abbrev pub ReadsArguments : Result (List (ℕ × List FormulaStep)) Stop → Result (List Operand) Refusal → Type 0
ReadsArguments (Ok arguments) read = (fs : List Operand) × (read ≡ Ok fs) × (arguments ≡ map coded fs)
ReadsArguments (Err stop) read = Stops stop read
