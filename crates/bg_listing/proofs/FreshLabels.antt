-- A signature can be continued by controls with labels of its own, up to the limit.
use Rattle.std.proofs.Common.{◌≡◌, ℕ, zero, suc, ◌+◌, ◌<◌, ◌≤◌, Bool, true, false, None, List, [], ◌∷◌, ◌++◌, length, lit≤, refl, sym, ap, subst, append_assoc, append-nil, arith}
use Rattle.std.specs.List.{AllByRecursion, list_all}
use Rattle.std.proofs.lemmas.List.{length-append}
use Rattle.bg_base.specs.Limits.{most_controls}
use Rattle.bg_base.specs.declared.labels.Label.{Label}
use Rattle.bg_base.specs.declared.signature.Kind.TheVariants.{Normal}
use Rattle.bg_base.specs.declared.signature.Control.{Control}
use Rattle.bg_base.specs.Signatures.{same_label, control_number, IsSignature}
use Rattle.bg_base.specs.Spelling.{is_word_byte}
use Rattle.bg_base.proofs.SignatureLaws.{one_more_control}
use Rattle.bg_base.proofs.ValueLaws.{same_label_from_test}
use Rattle.bg_listing.specs.Limits.{IsControl}

-- the names of all labels are shorter
abbrev AreShorter : ℕ → List Control → Type 0
AreShorter k controls = AllByRecursion (λ (c : Control). length c.label.name < k) controls

shorter_more : (k n : ℕ) (controls : List Control) → k ≤ n → AreShorter k controls → AreShorter n controls
shorter_more k n [] le s = tt
shorter_more k n (c ∷ controls) le s = let lt = s.0 in (omega arith, shorter_more k n controls le s.1)

shorter_append : (k : ℕ) (xs ys : List Control) → AreShorter k xs → AreShorter k ys → AreShorter k (xs ++ ys)
shorter_append k [] ys s t = t
shorter_append k (x ∷ xs) ys s t = (s.0, shorter_append k xs ys s.1 t)

longest : (controls : List Control) → (k : ℕ) × AreShorter k controls
longest [] = (0, tt)
longest (c ∷ controls) =
    let k = longest controls in
    let n : ℕ = suc (length c.label.name) + k.0 in
    let lt : length c.label.name < n = omega arith in
    let le : k.0 ≤ n = omega arith in
    (n, (lt, shorter_more k.0 n controls le k.1))

apart_if : (x y : Label) (same : Bool) → (same ≡ true → x ≡ y) → length x.name < length y.name → same ≡ false
apart_if x y true h lt = let e = ap (λ (l : Label). length l.name) (h refl) in absurd (omega (arith, e))
apart_if x y false h lt = refl

not_among : (controls : List Control) (label : Label) → AreShorter (length label.name) controls → control_number controls label ≡ None
not_among [] label s = refl
not_among (c ∷ controls) label s =
    rw (apart_if c.label label (same_label c.label label) (same_label_from_test c.label label) s.0, not_among controls label s.1) refl

letters : ℕ → List ℕ
letters zero = []
letters (suc k) = 65 ∷ letters k

letters_long : (k : ℕ) → length (letters k) ≡ k
unfolding letters
letters_long zero = refl
letters_long (suc k) = ap suc (letters_long k)

letters_word : (k : ℕ) → list_all is_word_byte (letters k) ≡ true
unfolding letters
letters_word zero = refl
letters_word (suc k) = letters_word k

fresh : ℕ → Control
fresh k = record { label = record { name = 65 ∷ letters k; args = [] }; arity = 0; kind = Normal }

fresh_is : (k : ℕ) → IsControl (fresh k)
unfolding fresh
fresh_is k = record { label = ((letters_word k, refl), tt); arity = lit≤ tt }

-- so many more controls
pub record GoesOnBy (controls : List Control) (m : ℕ) : Type 0 where
  pub more : List Control
  pub many : length more ≡ m
  pub signature : IsSignature (controls ++ more)
  pub all : AllByRecursion IsControl (controls ++ more)

all_one : (controls : List Control) (c : Control) → AllByRecursion IsControl controls → IsControl c → AllByRecursion IsControl (controls ++ c ∷ [])
all_one [] c all f = (f, tt)
all_one (x ∷ controls) c all f = (all.0, all_one controls c all.1 f)

goes_on_by : (m k : ℕ) (controls : List Control) → AreShorter k controls → IsSignature controls → AllByRecursion IsControl controls → length controls + m ≤ most_controls → GoesOnBy controls m
unfolding fresh
goes_on_by zero k controls s kept all few =
    record { more = []; many = refl; signature = subst IsSignature (sym (append-nil controls)) kept; all = subst (AllByRecursion IsControl) (sym (append-nil controls)) all }
goes_on_by (suc m) k controls s kept all few =
    let c : Control = fresh k in
    let long : length (letters k) ≡ k = letters_long k in
    let name : length c.label.name ≡ suc k = ap suc long in
    let le : k ≤ length c.label.name = omega (arith, name) in
    let none : control_number controls c.label ≡ None = not_among controls c.label (shorter_more k (length c.label.name) controls le s) in
    let room : length controls < most_controls = omega arith in
    let one : IsSignature (controls ++ c ∷ []) = one_more_control controls c kept none (lit≤ tt) room in
    let lt : length c.label.name < suc (suc k) = omega (arith, name) in
    let le2 : k ≤ suc (suc k) = omega arith in
    let shorter : AreShorter (suc (suc k)) (controls ++ c ∷ []) = shorter_append (suc (suc k)) controls (c ∷ []) (shorter_more k (suc (suc k)) controls le2 s) (lt, tt) in
    let fewer : length (controls ++ c ∷ []) + m ≤ most_controls = omega (arith, length-append controls (c ∷ [])) in
    let g = goes_on_by m (suc (suc k)) (controls ++ c ∷ []) shorter one (all_one controls c all (fresh_is k)) fewer in
    let moved : (controls ++ c ∷ []) ++ g.more ≡ controls ++ c ∷ g.more = append_assoc controls (c ∷ []) g.more in
    record { more = c ∷ g.more; many = ap suc g.many; signature = subst IsSignature moved g.signature; all = subst (AllByRecursion IsControl) moved g.all }

pub continued : (m : ℕ) (controls : List Control) → IsSignature controls → AllByRecursion IsControl controls → length controls + m ≤ most_controls → GoesOnBy controls m
continued m controls kept all few = let k = longest controls in goes_on_by m k.0 controls k.1 kept all few
