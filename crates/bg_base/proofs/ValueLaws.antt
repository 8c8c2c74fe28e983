-- Equal values are one value, and equal labels one label.
use Rattle.std.proofs.Common.{◌≡◌, true, Equal, List, [], ◌∷◌, refl, ap}
use Rattle.std.specs.Cmp.Lexicographic.{slice_cmp}
use Rattle.std.proofs.lemmas.Map.Lookups.{exact_signed, exact_bytes}
use Rattle.bg_lists.proofs.Comparisons.{Equal-from_is_eq, both_equal}
use Rattle.bg_base.specs.declared.labels.Value.{Value}
use Rattle.bg_base.specs.declared.labels.Value.TheVariants.{Int, Words}
use Rattle.bg_base.specs.declared.labels.Label.{Label}
use Rattle.bg_base.specs.Order.{bytes_cmp, value_cmp, label_cmp}
use Rattle.bg_base.specs.Signatures.{same_label}

pub same_value : (x y : Value) → value_cmp x y ≡ Equal → x ≡ y
same_value (Int x) (Int y) e = ap Int (exact_signed x y e)
same_value (Int x) (Words t) e = cc
same_value (Words s) (Int y) e = cc
same_value (Words s) (Words t) e = ap Words (exact_bytes s t e)

pub same_values : (xs ys : List Value) → slice_cmp value_cmp xs ys ≡ Equal → xs ≡ ys
same_values [] [] e = refl
same_values [] (y ∷ ys) e = cc
same_values (x ∷ xs) [] e = cc
same_values (x ∷ xs) (y ∷ ys) e =
    let parts = both_equal (value_cmp x y) (slice_cmp value_cmp xs ys) e in
    let first : x ≡ y = same_value x y parts.0 in
    let others : xs ≡ ys = same_values xs ys parts.1 in cc

-- the test that a look-up by label makes
pub same_label_from_test : (x y : Label) → same_label x y ≡ true → x ≡ y
same_label_from_test x y e =
    let parts = both_equal (bytes_cmp x.name y.name) (slice_cmp value_cmp x.args y.args) (Equal-from_is_eq (label_cmp x y) e) in
    let names : x.name ≡ y.name = exact_bytes x.name y.name parts.0 in
    let args : x.args ≡ y.args = same_values x.args y.args parts.1 in
    λ i. record { name = names i; args = args i }
