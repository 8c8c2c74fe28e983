-- Equal labels are one label, and the number of a label leads to it.
use Rattle.std.proofs.Common.{◌≡◌, ◌++◌, ◌∷◌, [], ℕ, suc, Bool, true, false, List, Option, Some, None, refl, ap, subst, ◌∙◌}
use Rattle.std.specs.Prelude.{if◌then◌else◌, slice_get, option_map}
use Rattle.bg_base.specs.declared.labels.Label.{Label}
use Rattle.bg_base.specs.declared.signature.Control.{Control}
use Rattle.bg_base.specs.Signatures.{same_label, control_number}
use Rattle.bg_base.proofs.ValueLaws.{same_label_from_test}
use Rattle.bg_values.proofs.Items.{still_at}
use Rattle.bg_terms.specs.Order.{label_at}

-- the control that a number leads to has the label
pub record FoundLabel (controls : List Control) (label : Label) (number : ℕ) : Type 0 where
  pub control : Control
  pub there : slice_get controls number ≡ Some control
  pub labelled : control.label ≡ label

pub found : (controls : List Control) (label : Label) (number : ℕ) → control_number controls label ≡ Some number → FoundLabel controls label number
found [] label number is = absurd cc
found (c ∷ cs) label number is = by (found cs label) (same_label c.label label) refl is
  where
    deeper : ((n : ℕ) → control_number cs label ≡ Some n → FoundLabel cs label n) → (o : Option ℕ) → control_number cs label ≡ o → option_map suc o ≡ Some number → FoundLabel (c ∷ cs) label number
    deeper others None there e = absurd cc
    deeper others (Some m) there e =
        let rest = others m there in
        let same : suc m ≡ number = cc in
        record { control = rest.control; there = subst (λ k. slice_get (c ∷ cs) k ≡ Some rest.control) same rest.there; labelled = rest.labelled }

    by : ((n : ℕ) → control_number cs label ≡ Some n → FoundLabel cs label n) → (b : Bool) → same_label c.label label ≡ b → (if b then Some 0 else option_map suc (control_number cs label)) ≡ Some number → FoundLabel (c ∷ cs) label number
    by others true same e =
        let first : 0 ≡ number = cc in
        record { control = c; there = subst (λ k. slice_get (c ∷ cs) k ≡ Some c) first refl; labelled = same_label_from_test c.label label same }
    by others false same e = deeper others (control_number cs label) refl e

-- a label keeps its number when a signature goes on
pub still_labelled : (controls more : List Control) (number : ℕ) (label : Label) → label_at controls number ≡ Some label
    → label_at (controls ++ more) number ≡ Some label
still_labelled controls more number label is = by (slice_get controls number) refl is
  where
    by : (o : Option Control) → slice_get controls number ≡ o → option_map (λ (control : Control). control.label) o ≡ Some label
        → label_at (controls ++ more) number ≡ Some label
    by None there e = absurd cc
    by (Some control) there e = ap (option_map (λ (c : Control). c.label)) (still_at controls more number control there) ∙ e
