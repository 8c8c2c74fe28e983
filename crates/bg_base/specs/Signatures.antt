-- Signatures: lists of controls with labels that differ.
use Rattle.std.specs.Prelude.{◌≡◌, ℕ, ◌≤◌, Bool, Option, Some, None, List, [], ◌∷◌, length, option_map, suc, if◌then◌else◌, All}
use Rattle.std.specs.Ordering.{is_eq}
use Rattle.std.specs.List.{IsDistinct}
use Rattle.std.specs.BTreeMap.{BTreeMap, get}
use Rattle.bg_base.specs.declared.labels.Label.{Label}
use Rattle.bg_base.specs.declared.signature.Control.{Control}
use Rattle.bg_base.specs.Limits.{most_controls, most_ports}
use Rattle.bg_base.specs.Order.{label_cmp}

-- the two labels are the same
abbrev pub same_label : Label → Label → Bool
same_label x y = is_eq (label_cmp x y)

-- the number of the first control with the label: its position, counted from 0
abbrev pub control_number : List Control → Label → Option ℕ
control_number [] label = None
control_number (control ∷ controls) label =
    if same_label control.label label then Some 0 else option_map suc (control_number controls label)

-- what a signature keeps: at most 4,096 controls, no arity above 16, no label twice
pub record IsSignature (controls : List Control) : Type 0 where
  pub few : length controls ≤ most_controls
  pub arities : All (λ control. control.arity ≤ most_ports) controls
  pub labels_differ : IsDistinct (λ (x y : Control). same_label x.label y.label) controls

-- the map leads from each label to the number of its control
abbrev pub IsNumbering : BTreeMap Label ℕ → List Control → Type 0
IsNumbering numbers controls = (label : Label) → get label_cmp numbers label ≡ control_number controls label

-- a signature, and the map by which its controls are found
pub record IsIndexedSignature (controls : List Control) (numbers : BTreeMap Label ℕ) : Type 0 where
  pub kept : IsSignature controls
  pub numbered : IsNumbering numbers controls
