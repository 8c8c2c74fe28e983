-- What visible controls and an expression are to have, so that values fit the signature reached.
use Rattle.std.specs.Prelude.{◌≡◌, ◌≤◌, List, Some, length, slice_get}
use Rattle.bg_lists.specs.Lists.{Mem}
use Rattle.bg_base.specs.Limits.{most_ports}
use Rattle.bg_base.specs.declared.big.Big.{Big}
use Rattle.bg_base.specs.declared.labels.Value.{Value}
use Rattle.bg_base.specs.declared.signature.Control.{Control}
use Rattle.bg_base.specs.Bigraph.{IsValidUnder}
use Rattle.bg_base.specs.Signatures.{IsSignature}
use Rattle.bg_terms.specs.declared.shape.Shape.{Shape}
use Rattle.bg_terms.specs.Expansion.{control_of_shape}
use Rattle.bg_terms.specs.Expressions.{Expression, node, reference, names, identity_of, merger_of, barren, empty, brackets, deeper, closure, nesting, binary}

-- no arity is above 16, and no word stands for two controls
pub record AreShapes (shapes : List Shape) : Type 0 where
  pub small : (shape : Shape) → Mem shape shapes → shape.arity ≤ most_ports
  pub once : (x y : Shape) → Mem x shapes → Mem y shapes → x.word ≡ y.word → x ≡ y

-- each control symbol is of a control that is there, and has as many names as that has ports
abbrev pub HasPorts : List Shape → Expression → Type 0
HasPorts shapes (node at number args ports) = (shape : Shape) × (slice_get shapes number ≡ Some shape) × (length ports ≡ shape.arity)
HasPorts shapes (reference at number args) = Unit {0}
HasPorts shapes (names at words) = Unit {0}
HasPorts shapes (identity_of at width words) = Unit {0}
HasPorts shapes (merger_of at width) = Unit {0}
HasPorts shapes (barren at) = Unit {0}
HasPorts shapes (empty at) = Unit {0}
HasPorts shapes (brackets at e) = HasPorts shapes e
HasPorts shapes (deeper at e) = HasPorts shapes e
HasPorts shapes (closure at word e) = HasPorts shapes e
HasPorts shapes (nesting at is_atom e d) = HasPorts shapes e × HasPorts shapes d
HasPorts shapes (binary kind at e d) = HasPorts shapes e × HasPorts shapes d

-- the control is one of the shapes with some arguments
pub record IsOfShapes (shapes : List Shape) (control : Control) : Type 0 where
  pub shape : Shape
  pub args : List Value
  pub among : Mem shape shapes
  pub is : control ≡ control_of_shape shape args

-- each control of the signature is one of the shapes with some arguments
abbrev pub AreOfShapes : List Shape → List Control → Type 0
AreOfShapes shapes controls = (control : Control) → Mem control controls → IsOfShapes shapes control

-- the bigraph is valid under the signature, which is one, each control of which is one of the shapes with some arguments
pub record FitsShapes (shapes : List Shape) (signature : List Control) (big : Big) : Type 0 where
  pub valid : IsValidUnder signature big
  pub kept : IsSignature signature
  pub of_shapes : AreOfShapes shapes signature
