-- Expressions that were read from trees, while more and more controls became visible.
use Rattle.std.specs.Prelude.{◌≡◌, ◌≤◌, ◌<◌, ℕ, List, ◌++◌, map, Ok}
use Rattle.bg_lists.specs.Lists.{Mem}
use Rattle.bg_trees.specs.declared.expressions.SynE.{SynE}
use Rattle.bg_values.specs.Names.{NamedValue}
use Rattle.bg_terms.specs.declared.shape.ControlEntry.{ControlEntry}
use Rattle.bg_terms.specs.declared.shape.Shape.{Shape}
use Rattle.bg_terms.specs.Expressions.{Expression, node, reference, names, identity_of, merger_of, barren, empty, brackets, deeper, closure, nesting, binary}
use Rattle.bg_terms.specs.Trees.{Visible, e_read}
use Rattle.bg_base.specs.Limits.{most_ports}

-- the shapes of the controls of a table, in their order
abbrev pub shapes_of : List (NamedValue ControlEntry) → List Shape
shapes_of controls = map (λ (control : NamedValue ControlEntry). control.1.shape) controls

-- the expression is what a tree says where the controls were visible that these shapes begin with
pub record IsRead (shapes : List Shape) (expression : Expression) : Type 0 where
  pub tree : SynE
  pub visible : Visible
  pub is : (e_read tree).1 visible ≡ Ok expression
  pub later : List Shape
  pub begins : shapes ≡ shapes_of visible.controls ++ later

-- the controls of a table: each stands under its own word, no arity is above 16, and no word stands for two
pub record AreControls (controls : List (NamedValue ControlEntry)) : Type 0 where
  pub named : (control : NamedValue ControlEntry) → Mem control controls → control.1.shape.word ≡ control.0
  pub small : (control : NamedValue ControlEntry) → Mem control controls → control.1.shape.arity ≤ most_ports
  pub once : (x y : NamedValue ControlEntry) → Mem x controls → Mem y controls → x.0 ≡ y.0 → x ≡ y

-- what statements have made visible: the controls, and definitions that were each read under the first ones of these controls
pub record AreRead (controls : List (NamedValue ControlEntry)) (definitions : List Expression) : Type 0 where
  pub table : AreControls controls
  pub each : (definition : Expression) → Mem definition definitions → IsRead (shapes_of controls) definition

-- each reference is to one of the first definitions, as many as `count`
abbrev pub RefersBelow : ℕ → Expression → Type 0
RefersBelow count (node at number args ports) = Unit {0}
RefersBelow count (reference at number args) = number < count
RefersBelow count (names at words) = Unit {0}
RefersBelow count (identity_of at width words) = Unit {0}
RefersBelow count (merger_of at width) = Unit {0}
RefersBelow count (barren at) = Unit {0}
RefersBelow count (empty at) = Unit {0}
RefersBelow count (brackets at e) = RefersBelow count e
RefersBelow count (deeper at e) = RefersBelow count e
RefersBelow count (closure at word e) = RefersBelow count e
RefersBelow count (nesting at is_atom e d) = RefersBelow count e × RefersBelow count d
RefersBelow count (binary kind at e d) = RefersBelow count e × RefersBelow count d
