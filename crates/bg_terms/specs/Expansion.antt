-- What an expression expands to.
use Rattle.std.specs.Prelude.{ℕ, List, [], ◌∷◌, ◌++◌, slice_get, Option, Some, None, Result, Ok, Err}
use Rattle.bg_base.specs.declared.labels.Value.{Value}
use Rattle.bg_base.specs.declared.signature.Control.{Control}
use Rattle.bg_terms.specs.declared.shape.Shape.{Shape}
use Rattle.bg_values.specs.declared.refusal.Refusal.{Refusal}
use Rattle.bg_values.specs.declared.refusal.Cause.TheVariants.{UnknownName}
use Rattle.bg_values.specs.Operands.{values}
use Rattle.bg_terms.specs.Expressions.{Expression, node, reference, names, identity_of, merger_of, barren, empty, brackets, deeper, closure, nesting, binary}
use Rattle.bg_terms.specs.Terms.{Term}
use Rattle.bg_terms.specs.Terms as terms

-- the control of a shape with these arguments
abbrev pub control_of_shape : Shape → List Value → Control
control_of_shape shape args = record { label = record { name = shape.word; args = args }; arity = shape.arity; kind = shape.kind }

-- what a definition is: a term for each list of arguments
abbrev pub Meaning : Type 0
Meaning = List Value → Term

-- no such control or definition
abbrev pub unknown : ℕ → Term
unknown at = terms.refusal (record { cause = UnknownName; token = at })

-- goes on with the values of the arguments; a form counts before its arguments are evaluated
abbrev pub with_values : ℕ → Result (List Value) Refusal → (List Value → Term) → Term
with_values at (Ok args) f = f args
with_values at (Err refusal) f = terms.counted at (terms.refusal refusal)

-- a node of the control that was found, with these ports and these arguments
abbrev pub node_term : ℕ → Option Shape → List (List ℕ) → List Value → Term
node_term at (Some shape) ports args = terms.node at (control_of_shape shape args) ports
node_term at None ports args = terms.counted at (unknown at)

-- the term of the definition that was found, with these arguments
abbrev pub meant : ℕ → Option Meaning → List Value → Term
meant at (Some meaning) args = meaning args
meant at None args = unknown at

-- the term of an expression, where the formals have these values
abbrev pub expand : List Shape → List Meaning → List Value → Expression → Term
expand shapes meanings env (node at number args ports) = with_values at (values env args) (node_term at (slice_get shapes number) ports)
expand shapes meanings env (reference at number args) =
    with_values at (values env args) (λ vs. terms.counted at (meant at (slice_get meanings number) vs))
expand shapes meanings env (names at words) = terms.names at words
expand shapes meanings env (identity_of at width words) = terms.identity_of at width words
expand shapes meanings env (merger_of at width) = terms.merger_of at width
expand shapes meanings env (barren at) = terms.barren at
expand shapes meanings env (empty at) = terms.empty at
expand shapes meanings env (brackets at e) = terms.counted at (expand shapes meanings env e)
expand shapes meanings env (deeper at e) = terms.deeper at (expand shapes meanings env e)
expand shapes meanings env (closure at word e) = terms.closure at word (expand shapes meanings env e)
expand shapes meanings env (nesting at is_atom e d) = terms.nesting at is_atom (expand shapes meanings env e) (expand shapes meanings env d)
expand shapes meanings env (binary kind at e d) = terms.binary kind at (expand shapes meanings env e) (expand shapes meanings env d)

-- the meanings of definitions in their order, each of which may refer to those before it
abbrev pub meanings_after : List Shape → List Meaning → List Expression → List Meaning
meanings_after shapes meanings [] = meanings
meanings_after shapes meanings (e ∷ es) = meanings_after shapes (meanings ++ (λ args. expand shapes meanings args e) ∷ []) es

-- the meanings of all definitions
abbrev pub meanings_of : List Shape → List Expression → List Meaning
meanings_of shapes es = meanings_after shapes [] es

-- no form of the expression is a reference
abbrev pub HasNoReference : Expression → Type 0
HasNoReference (node at number args ports) = Unit {0}
HasNoReference (reference at number args) = ⊥
HasNoReference (names at words) = Unit {0}
HasNoReference (identity_of at width words) = Unit {0}
HasNoReference (merger_of at width) = Unit {0}
HasNoReference (barren at) = Unit {0}
HasNoReference (empty at) = Unit {0}
HasNoReference (brackets at e) = HasNoReference e
HasNoReference (deeper at e) = HasNoReference e
HasNoReference (closure at word e) = HasNoReference e
HasNoReference (nesting at is_atom e d) = HasNoReference e × HasNoReference d
HasNoReference (binary kind at e d) = HasNoReference e × HasNoReference d
