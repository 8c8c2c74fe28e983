-- In which order the nodes of a value stand, and which controls its signature has.
use Rattle.std.specs.Prelude.{◌≡◌, ℕ, List, [], ◌∷◌, ◌++◌, map, Option, Some, slice_get, option_map}
use Rattle.bg_base.specs.declared.big.NodeRow.{NodeRow}
use Rattle.bg_base.specs.declared.big.Big.{Big}
use Rattle.bg_base.specs.declared.labels.Label.{Label}
use Rattle.bg_base.specs.declared.signature.Control.{Control}
use Rattle.bg_terms.specs.Terms as terms
use Rattle.bg_terms.specs.Terms.{Term}

-- the controls of the control symbols of a term, in the order of the text
abbrev pub controls_of : Term → List Control
controls_of (terms.refusal r) = []
controls_of (terms.node at control words) = control ∷ []
controls_of (terms.names at words) = []
controls_of (terms.identity_of at width words) = []
controls_of (terms.merger_of at width) = []
controls_of (terms.barren at) = []
controls_of (terms.empty at) = []
controls_of (terms.counted at t) = controls_of t
controls_of (terms.deeper at t) = controls_of t
controls_of (terms.closure at word t) = controls_of t
controls_of (terms.nesting at is_atom t u) = controls_of t ++ controls_of u
controls_of (terms.binary kind at t u) = controls_of t ++ controls_of u

-- the label of the control with that number
abbrev pub label_at : List Control → ℕ → Option Label
label_at signature number = option_map (λ (control : Control). control.label) (slice_get signature number)

-- the labels of the nodes, row by row
abbrev pub labels_of : List Control → List NodeRow → List (Option Label)
labels_of signature rows = map (λ (row : NodeRow). label_at signature row.control) rows

-- the labels of these controls, each of which is there
abbrev pub labels_there : List Control → List (Option Label)
labels_there controls = map (λ (control : Control). Some control.label) controls

-- the signature goes on, and in it the nodes have, row by row, the labels of these controls
pub record AreInOrder (before controls : List Control) (big : Big) (after : List Control) : Type 0 where
  pub entered : List Control
  pub goes_on : after ≡ before ++ entered
  pub labels : labels_of after big.nodes ≡ labels_there controls
