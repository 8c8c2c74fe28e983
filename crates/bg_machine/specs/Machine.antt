-- What the machine does.
use Rattle.std.specs.Prelude.{ℕ, ◌+◌, ◌-◌, nat_lt, if◌then◌else◌, List, [], ◌∷◌, ◌++◌, Option, Some, None, Result, Ok, slice_get}
use Rattle.bg_base.specs.Limits.{most_depth}
use Rattle.bg_base.specs.declared.big.Big.{Big}
use Rattle.bg_base.specs.declared.labels.Value.{Value}
use Rattle.bg_base.specs.declared.signature.Control.{Control}
use Rattle.bg_base.specs.declared.names.Name.TheVariants.{Plain}
use Rattle.bg_builder.specs.Stack.{top, under, second, others, two_follow, top_behind}
use Rattle.bg_code.specs.declared.operation.Operation.{Operation}
use Rattle.bg_code.specs.declared.operation.Operation.TheVariants.{Node, Reference, Names, Identity, Merger, Barren, Empty, Count, Enter, Leave, Open, Close, Nest, Join}
use Rattle.bg_machine.specs.States.{State, pushed, gone_on}
use Rattle.bg_terms.specs.declared.shape.Shape.{Shape}
use Rattle.bg_terms.specs.Expansion.{control_of_shape}
use Rattle.bg_terms.specs.Terms as terms
use Rattle.bg_terms.specs.Terms.{Term}
use Rattle.bg_terms.specs.Values.{Reached, Come, value, tallied, entered, single, plain_names, within, name_closed, nested, combined}
use Rattle.bg_values.specs.declared.refusal.Refusal.{Refusal}
use Rattle.bg_values.specs.declared.refusal.LimitWord.TheVariants.{Depth}
use Rattle.bg_values.specs.declared.refusal.Cause.TheVariants.{Unexpected, UnknownName, TooLarge}
use Rattle.bg_values.specs.declared.formula.FormulaStep.{FormulaStep}
use Rattle.bg_values.specs.Operands.{outcomes}
use Rattle.bg_values.specs.Outcome.{◌>>=◌, refused, there_or}
use Rattle.bg_values.specs.Stacks.{first, rest}

-- what a call of a definition does with a state, for each list of arguments
abbrev pub Running : Type 0
Running = List Value → State → Result State Refusal

-- the value of the term on top, where the evaluation of the term begins in this state
abbrev pub comes_to : State → Term → Result State Refusal
comes_to s t = pushed s (value s.depth t s.reached)

abbrev pub called : ℕ → Option Running → List Value → State → Result State Refusal
called at (Some running) args s = running args s
called at None args s = refused UnknownName at

-- what is told where code is that of no expression
abbrev pub unexpected : ℕ → Refusal
unexpected at = record { cause = Unexpected; token = at }

-- a bigraph of the two on top, in their place; the numbers of the one on top lie behind those of the other
abbrev pub joined : ℕ → (Big → Big → Result Big Refusal) → State → Result State Refusal
joined at operation s =
    if two_follow s.stack then
    pushed (record s { stack = others s.stack }) (operation (second s.stack) (top s.stack) >>= λ big. within at big s.reached)
    else refused Unexpected at

-- the bigraph on top with its name closed by that edge, behind which its edges lie
abbrev pub closing_by : ℕ → List ℕ → ℕ → State → Result State Refusal
closing_by at word edge s =
    if top_behind edge s.stack then
    pushed (record s { stack = under s.stack }) (within at (name_closed edge (Plain word) (top s.stack)) s.reached)
    else refused Unexpected at

-- the same, by the edge of the innermost closure that is open
abbrev pub closing : ℕ → List ℕ → State → Result State Refusal
closing at word s =
    there_or Unexpected at (first s.edges_open) >>= λ edge. closing_by at word edge (record s { edges_open = rest s.edges_open })

-- a node of the control, which enters the signature where it is new
abbrev pub node_made : ℕ → Control → List (List ℕ) → Reached → Come
node_made at control words c =
    entered at control c.signature >>= λ e.
    within at (single control.kind e.0 c.nodes (plain_names words)) (record c { signature = e.1; nodes = c.nodes + 1 })

-- the node of a shape with these arguments
abbrev pub node_come : ℕ → Option Shape → List (List ℕ) → List Value → Reached → Come
node_come at (Some shape) words args c = node_made at (control_of_shape shape args) words c
node_come at None words args c = refused UnknownName at

-- a node whose arguments come to these values, or are refused
abbrev pub evaluated_node : ℕ → Result (List Value) Refusal → Option Shape → List (List ℕ) → Reached → Come
evaluated_node at vs found words c = vs >>= λ args. node_come at found words args c

-- the same, once it is counted
abbrev pub counted_node : ℕ → Result (List Value) Refusal → Option Shape → List (List ℕ) → Reached → Come
counted_node at vs found words c = tallied at c >>= evaluated_node at vs found words

-- one `K` more is open, of at most 1,024
abbrev pub deeper_by_one : ℕ → State → Result State Refusal
deeper_by_one at s = if nat_lt s.depth most_depth then Ok (record s { depth = s.depth + 1 }) else refused (TooLarge Depth) at

abbrev pub back_by_one : State → State
back_by_one s = record s { depth = s.depth - 1 }

-- a closure takes the next edge number
abbrev pub opened : State → State
opened s = record s { edges_open = s.reached.edges ∷ s.edges_open; reached = record (s.reached) { edges = s.reached.edges + 1 } }

-- a reference counts, then its arguments are evaluated, then the definition is called
abbrev pub referred : List Shape → List Running → List Value → ℕ → ℕ → List (ℕ × List FormulaStep) → State → Result State Refusal
referred shapes running env at definition args s =
    gone_on s (tallied at s.reached) >>= λ t. outcomes env args >>= λ vs. called at (slice_get running definition) vs t

-- one operation
abbrev pub step : List Shape → List Running → List Value → Operation → State → Result State Refusal
step shapes running env (Node at control args ports) s =
    pushed s (counted_node at (outcomes env args) (slice_get shapes control) ports s.reached)
step shapes running env (Reference at definition args) s = referred shapes running env at definition args s
step shapes running env (Names at words) s = comes_to s (terms.names at words)
step shapes running env (Identity at width words) s = comes_to s (terms.identity_of at width words)
step shapes running env (Merger at width) s = comes_to s (terms.merger_of at width)
step shapes running env (Barren at) s = comes_to s (terms.barren at)
step shapes running env (Empty at) s = comes_to s (terms.empty at)
step shapes running env (Count at) s = gone_on s (tallied at s.reached)
step shapes running env (Enter at) s = deeper_by_one at s
step shapes running env Leave s = Ok (back_by_one s)
step shapes running env Open s = Ok (opened s)
step shapes running env (Close at word) s = closing at word s
step shapes running env (Nest at is_atom) s = joined at (nested at is_atom) s
step shapes running env (Join kind at) s = joined at (combined kind at) s

-- operations in order
abbrev pub run : List Shape → List Running → List Value → List Operation → State → Result State Refusal
run shapes running env [] s = Ok s
run shapes running env (operation ∷ operations) s = step shapes running env operation s >>= run shapes running env operations

-- the definitions in their order, each of which may call those before it
abbrev pub running_after : List Shape → List Running → List (List Operation) → List Running
running_after shapes running [] = running
running_after shapes running (code ∷ codes) =
    running_after shapes (running ++ (λ args s. run shapes running args code s) ∷ []) codes

abbrev pub running_of : List Shape → List (List Operation) → List Running
running_of shapes codes = running_after shapes [] codes
