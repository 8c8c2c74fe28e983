-- What `Signature` keeps, as controls are added.
use Rattle.std.proofs.Common.{◌≡◌, ℕ, suc, ◌+◌, ◌<◌, ◌≤◌, Bool, true, false, cond, Option, Some, None, List, [], ◌∷◌, ◌++◌, length, lit≤, refl, sym, ap, ◌∙◌, arith, length-append, zero, ◌-◌, get_or, drop, zero-add, add-zero}
use Rattle.std.specs.Option.{option_map}
use Rattle.std.specs.Cmp.{IsEquivalence}
use Rattle.std.specs.List.{IsDistinct, list_any}
use Rattle.std.proofs.lemmas.Bool.{false≢true}
use Rattle.std.proofs.lemmas.Cmp.{eq_by_cmp_equiv, on_equiv}
use Rattle.std.proofs.lemmas.List.Elements.{All-nil, All-push}
use Rattle.std.proofs.lemmas.Map.Keys.{IsDistinct-push}
use Rattle.std.proofs.Math.Seq.{drop-cons}
use Rattle.std.specs.Map.{lookup}
use Rattle.std.specs.BTreeMap.{BTreeMap, get, is_at}
use Rattle.bg_base.specs.Limits.{most_controls, most_ports}
use Rattle.bg_base.specs.declared.labels.Label.{Label}
use Rattle.bg_base.specs.declared.signature.Control.{Control}
use Rattle.bg_base.specs.Order.{label_cmp}
use Rattle.bg_base.specs.LabelLaws.{label_cmp_total}
use Rattle.bg_base.specs.Signatures.{same_label, control_number, IsSignature, IsNumbering}

-- two controls with one label
abbrev alike : Control → Control → Bool
alike x y = same_label x.label y.label

alike_equiv : IsEquivalence alike
alike_equiv = on_equiv (λ (control : Control). control.label) (eq_by_cmp_equiv label_cmp_total)

pub no_controls : IsSignature []
unfolding IsDistinct
no_controls = record { few = lit≤ tt; arities = All-nil _; labels_differ = tt }

-- the first control does not have a label that no control has
none_head : (b : Bool) (o : Option ℕ) → cond b (Some 0) (option_map suc o) ≡ None → b ≡ false
none_head true o e = cc
none_head false o e = refl

none_tail : (b : Bool) (o : Option ℕ) → cond b (Some 0) (option_map suc o) ≡ None → o ≡ None
none_tail true o e = cc
none_tail false None e = refl
none_tail false (Some n) e = cc

none_alike : (controls : List Control) (control : Control) → control_number controls control.label ≡ None → list_any (alike control) controls ≡ false
none_alike [] control e = refl
none_alike (c ∷ cs) control e =
    let head = none_head (alike c control) (control_number cs control.label) e in
    let tail = none_alike cs control (none_tail (alike c control) (control_number cs control.label) e) in
    rw (alike_equiv.symm control c, head) tail

pub one_more_control : (controls : List Control) (control : Control) → IsSignature controls → control_number controls control.label ≡ None
    → control.arity ≤ most_ports → length controls < most_controls → IsSignature (controls ++ control ∷ [])
one_more_control controls control kept none arity room =
    record {
      few = let few = kept.few in simp length-append (omega arith);
      arities = All-push (λ c. c.arity ≤ most_ports) controls control kept.arities arity;
      labels_differ = IsDistinct-push alike_equiv controls control kept.labels_differ (none_alike controls control none);
    }

-- ---- the map from labels to numbers

pub no_numbers : (numbers : BTreeMap Label ℕ) → numbers.entries ≡ [] → IsNumbering numbers []
no_numbers numbers empty label = ap (lookup (is_at (label_cmp label))) empty

-- a map with the same entries leads to the same numbers
pub same_numbers : (numbers new : BTreeMap Label ℕ) (controls : List Control) → new.entries ≡ numbers.entries
    → IsNumbering numbers controls → IsNumbering new controls
same_numbers numbers new controls same is label = ap (lookup (is_at (label_cmp label))) same ∙ is label

label_equiv : IsEquivalence same_label
label_equiv = eq_by_cmp_equiv label_cmp_total

push_case : (x c : Bool) (n : ℕ) (o : Option ℕ) → (x ≡ true → c ≡ true → ⊥)
    → cond x (Some 0) (option_map suc (cond c (Some n) o)) ≡ cond c (Some (suc n)) (cond x (Some 0) (option_map suc o))
push_case true true n o apart = absurd (apart refl refl)
push_case true false n o apart = refl
push_case false true n o apart = refl
push_case false false n o apart = refl

-- the numbers of the labels once a control with a new label stands at the end
number_of-push : (controls : List Control) (control : Control) (label : Label) → control_number controls control.label ≡ None
    → control_number (controls ++ control ∷ []) label ≡ cond (same_label control.label label) (Some (length controls)) (control_number controls label)
number_of-push [] control label none = refl
number_of-push (c ∷ cs) control label none =
    let head = none_head (alike c control) (control_number cs control.label) none in
    let tail = none_tail (alike c control) (control_number cs control.label) none in
    rw (number_of-push cs control label tail)
    (push_case (same_label c.label label) (same_label control.label label) (length cs) (control_number cs label)
    (λ first second.
    let both : same_label c.label control.label ≡ true =
    label_equiv.symm c.label control.label ∙ label_equiv.congr control.label label c.label second ∙ label_equiv.symm label c.label ∙ first in
    false≢true (sym head ∙ both)))

pub one_more_number : (controls : List Control) (control : Control) (numbers new : BTreeMap Label ℕ) → IsNumbering numbers controls
    → control_number controls control.label ≡ None
    → ((label : Label) → get label_cmp new label ≡ cond (same_label control.label label) (Some (length controls)) (get label_cmp numbers label))
    → IsNumbering new (controls ++ control ∷ [])
one_more_number controls control numbers new is none updates label =
    updates label ∙ ap (λ o. cond (same_label control.label label) (Some (length controls)) o) (is label)
    ∙ sym (number_of-push controls control label none)

-- the map once a control is put in front of the later ones, whose numbers count on from its own
abbrev pub IsNumberingFrom : ℕ → BTreeMap Label ℕ → List Control → Type 0
IsNumberingFrom first numbers controls = (label : Label) → get label_cmp numbers label ≡ option_map (λ n. first + n) (control_number controls label)

front_case : (b : Bool) (m : ℕ) (o : Option ℕ)
    → cond b (Some m) (option_map (λ n. suc m + n) o) ≡ option_map (λ n. m + n) (cond b (Some 0) (option_map suc o))
front_case true m o = ap Some (sym (add-zero m))
front_case false m None = refl
front_case false m (Some n) = ap Some (omega arith)

put_front : (rest : List Control) (control : Control) (m : ℕ) (numbers new : BTreeMap Label ℕ) → IsNumberingFrom (suc m) numbers rest
    → ((label : Label) → get label_cmp new label ≡ cond (same_label control.label label) (Some m) (get label_cmp numbers label))
    → IsNumberingFrom m new (control ∷ rest)
put_front rest control m numbers new is updates label =
    updates label ∙ ap (λ o. cond (same_label control.label label) (Some m) o) (is label)
    ∙ front_case (same_label control.label label) m (control_number rest label)

pub numbering_turn : (controls : List Control) (n : ℕ) (numbers new : BTreeMap Label ℕ) (control : Control)
    → 0 < n → n ≤ length controls → control ≡ get_or controls (n - 1) control → IsNumberingFrom n numbers (drop n controls)
    → ((label : Label) → get label_cmp new label ≡ cond (same_label control.label label) (Some (n - 1)) (get label_cmp numbers label))
    → IsNumberingFrom (n - 1) new (drop (n - 1) controls)
numbering_turn controls zero numbers new control some within at is updates = absurd (omega arith)
numbering_turn controls (suc m) numbers new control some within at is updates =
    let less : suc m - 1 ≡ m = omega arith in
    let short : m < length controls = omega arith in
    let here : control ≡ get_or controls m control = rw (← less) at in
    let front : drop m controls ≡ control ∷ drop (suc m) controls =
    drop-cons controls m control short ∙ ap (λ x. x ∷ drop (suc m) controls) (sym here) in
    let written : (label : Label) → get label_cmp new label ≡ cond (same_label control.label label) (Some m) (get label_cmp numbers label) = rw (← less) updates in
    rw (less, front) (put_front (drop (suc m) controls) control m numbers new is written)

from_zero : (o : Option ℕ) → option_map (λ n. 0 + n) o ≡ o
from_zero None = refl
from_zero (Some n) = ap Some (zero-add n)

-- a map that numbers all labels from 0
pub numbering_whole : (controls : List Control) (numbers : BTreeMap Label ℕ) → IsNumberingFrom 0 numbers controls → IsNumbering numbers controls
numbering_whole controls numbers is label = is label ∙ from_zero (control_number controls label)
