-- The code of an expression.
use Rattle.std.specs.Prelude.{List, [], ◌∷◌, ◌++◌, map}
use Rattle.bg_code.specs.declared.operation.Operation.{Operation}
use Rattle.bg_code.specs.declared.operation.Operation.TheVariants.{Node, Reference, Names, Identity, Merger, Barren, Empty, Count, Enter, Leave, Open, Close, Nest, Join}
use Rattle.bg_terms.specs.Expressions.{Expression, node, reference, names, identity_of, merger_of, barren, empty, brackets, deeper, closure, nesting, binary}
use Rattle.bg_values.specs.Operands.{coded}

-- operands before their operator; a form that counts, goes deeper or takes an edge's number does so before what is in it
abbrev pub code_of : Expression → List Operation
code_of (node at control args ports) = Node at control (map coded args) ports ∷ []
code_of (reference at definition args) = Reference at definition (map coded args) ∷ []
code_of (names at words) = Names at words ∷ []
code_of (identity_of at width words) = Identity at width words ∷ []
code_of (merger_of at width) = Merger at width ∷ []
code_of (barren at) = Barren at ∷ []
code_of (empty at) = Empty at ∷ []
code_of (brackets at e) = Count at ∷ code_of e
code_of (deeper at e) = Enter at ∷ (code_of e ++ Leave ∷ [])
code_of (closure at word e) = Open ∷ (code_of e ++ Close at word ∷ [])
code_of (nesting at is_atom e d) = code_of e ++ (code_of d ++ Nest at is_atom ∷ [])
code_of (binary kind at e d) = code_of e ++ (code_of d ++ Join kind at ∷ [])
