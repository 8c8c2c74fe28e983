-- Equal labels, and the numbers of labels in a signature.
use Rattle.std.proofs.Common.{◌≡◌, ℕ, zero, suc, ◌<◌, Bool, true, false, cond, is_eq, Option, Some, None, List, [], ◌∷◌, ◌++◌, length, refl, sym, ap, subst, append_assoc, arith}
use Rattle.std.specs.Prelude.{option_map, unwrap_or}
use Rattle.std.specs.List.{AllByRecursion, IsDistinct}
use Rattle.std.proofs.lemmas.Cmp.{tied_itself}
use Rattle.bg_base.specs.declared.labels.Label.{Label}
use Rattle.bg_base.specs.declared.signature.Control.{Control}
use Rattle.bg_base.specs.LabelLaws.{label_cmp_total}
use Rattle.bg_base.specs.Signatures.{same_label, control_number}
use Rattle.bg_base.proofs.ValueLaws.{same_label_from_test}
use Rattle.bg_listing.specs.Spelling.{label_of}
use Rattle.bg_listing.specs.Lines.{control_of}
use Rattle.bg_listing.specs.Verdict.{repeat_among, first_repeat}

pub same_label_itself : (x : Label) → same_label x x ≡ true
same_label_itself x = ap is_eq (tied_itself label_cmp_total x)

-- ---- numbers of labels

-- a number that was found leads back to the label
number_back_if : (c : Control) (controls : List Control) (label : Label) (same : Bool) (later : Option ℕ) (k : ℕ) → (same ≡ true → c.label ≡ label) → ((j : ℕ) → later ≡ Some j → label_of controls j ≡ label)
    → cond same (Some 0) (option_map suc later) ≡ Some k → label_of (c ∷ controls) k ≡ label
number_back_if c controls label true later k h t e = let z : k ≡ 0 = cc in rw z (h refl)
number_back_if c controls label false None k h t e = absurd cc
number_back_if c controls label false (Some j) k h t e = let z : k ≡ suc j = cc in rw z (t j refl)

number_back : (controls : List Control) (label : Label) (k : ℕ) → control_number controls label ≡ Some k → label_of controls k ≡ label
number_back [] label k e = absurd cc
number_back (c ∷ controls) label k e = number_back_if c controls label (same_label c.label label) (control_number controls label) k (same_label_from_test c.label label) (number_back controls label) e

known_back : (controls : List Control) (label : Label) (number : Option ℕ) → control_number controls label ≡ number → unwrap_or number (length controls) < length controls → label_of controls (unwrap_or number (length controls)) ≡ label
known_back controls label None e lt = absurd (omega arith)
known_back controls label (Some k) e lt = number_back controls label k e

-- a control that is there leads back to the label
pub label_back : (controls : List Control) (label : Label) → control_of controls label < length controls → label_of controls (control_of controls label) ≡ label
label_back controls label lt = known_back controls label (control_number controls label) refl lt

other_labels : (label : Label) (controls : List Control) (k : ℕ) → AllByRecursion (λ (c : Control). same_label label c.label ≡ false) controls → k < length controls → same_label label (label_of controls k) ≡ false
other_labels label [] k all lt = absurd (omega arith)
other_labels label (c ∷ controls) zero all lt = all.0
other_labels label (c ∷ controls) (suc k) all lt = let l : k < length controls = omega arith in other_labels label controls k all.1 l

number_own : (controls : List Control) → IsDistinct (λ (x y : Control). same_label x.label y.label) controls → (k : ℕ) → k < length controls → control_number controls (label_of controls k) ≡ Some k
unfolding IsDistinct
number_own [] distinct k lt = absurd (omega arith)
number_own (c ∷ controls) distinct zero lt = rw (same_label_itself c.label) refl
number_own (c ∷ controls) distinct (suc k) lt =
    let l : k < length controls = omega arith in
    rw (other_labels c.label controls k distinct.0 l, number_own controls distinct.1 k l) refl

-- the number of the label of a control is the number of the control
pub control_own : (controls : List Control) → IsDistinct (λ (x y : Control). same_label x.label y.label) controls → (k : ℕ) → k < length controls → control_of controls (label_of controls k) ≡ k
control_own controls distinct k lt = ap (λ o. unwrap_or o (length controls)) (number_own controls distinct k lt)

-- ---- labels that stand twice

pub all_here : {A : Type 0} (P : A → Type 0) (before : List A) (x : A) (rest : List A) → AllByRecursion P (before ++ x ∷ rest) → P x
all_here P [] x rest all = all.0
all_here P (b ∷ before) x rest all = all_here P before x rest all.1

pub none_before : (before : List Control) (control : Control) (rest : List Control) → IsDistinct (λ (x y : Control). same_label x.label y.label) (before ++ control ∷ rest) → control_number before control.label ≡ None
unfolding IsDistinct
none_before [] control rest distinct = refl
none_before (b ∷ before) control rest distinct =
    rw (all_here (λ (y : Control). same_label b.label y.label ≡ false) before control rest distinct.0, none_before before control rest distinct.1) refl

none_among : (before controls : List Control) → IsDistinct (λ (x y : Control). same_label x.label y.label) (before ++ controls) → repeat_among before controls ≡ None
none_among before [] distinct = refl
none_among before (c ∷ controls) distinct =
    let moved : before ++ c ∷ controls ≡ (before ++ c ∷ []) ++ controls = sym (append_assoc before (c ∷ []) controls) in
    let d = subst (λ cs. IsDistinct (λ (x y : Control). same_label x.label y.label) cs) moved distinct in
    rw (none_before before c controls distinct, none_among (before ++ c ∷ []) controls d) refl

-- where labels differ, none stands twice
pub no_repeat : (controls : List Control) → IsDistinct (λ (x y : Control). same_label x.label y.label) controls → first_repeat controls ≡ None
no_repeat controls distinct = none_among [] controls distinct
