-- The order of labels is a total order that tells equal labels alone as equal.
use Rattle.std.specs.Prelude.{◌≡◌, ℕ, ℤ, pos, List, [], refl}
use Rattle.std.specs.Ordering.{nat_cmp, int_cmp, ordering_then, eq_by_cmp, on, then_cmp}
use Rattle.std.specs.Cmp.{IsTotalOrder, both_tied}
use Rattle.std.specs.Cmp.Lexicographic.{slice_cmp, texts_ties, lists_ties}
use Rattle.std.specs.declared.cmp.Ordering.{Ordering}
use Rattle.std.specs.declared.cmp.Ordering.TheVariants.{Less, Equal, Greater}
use Rattle.std.proofs.Common.{sym, ◌∙◌}
use Rattle.std.proofs.lemmas.Cmp.{on_total, then_total, nat_list_cmp_total, nat_cmp_total, int_cmp_total, lists_total}
use Rattle.bg_base.specs.declared.labels.Value.{Value}
use Rattle.bg_base.specs.declared.labels.Value.TheVariants.{Int, Words}
use Rattle.bg_base.specs.declared.labels.Label.{Label}
use Rattle.bg_base.specs.contracts.labels.ValuePartialEq.TheImpl.{ghosts as of_value}
use Rattle.bg_base.specs.contracts.labels.LabelPartialEq.TheImpl.{ghosts as of_label}
use Rattle.bg_base.specs.Order.{bytes_cmp, value_cmp, label_cmp}

value_tag : Value → ℕ
value_tag (Int x) = 0
value_tag (Words s) = 1

value_number : Value → ℤ
value_number (Int x) = x
value_number (Words s) = pos 0

value_bytes : Value → List ℕ
value_bytes (Int x) = []
value_bytes (Words s) = s

abbrev by_parts : Value → Value → Ordering
by_parts = then_cmp (on value_tag nat_cmp) (then_cmp (on value_number int_cmp) (on value_bytes bytes_cmp))

then_equal : (o : Ordering) → ordering_then o Equal ≡ o
then_equal Less = refl
then_equal Equal = refl
then_equal Greater = refl

value_cmp-parts : (x y : Value) → value_cmp x y ≡ by_parts x y
unfolding value_tag value_number value_bytes
value_cmp-parts (Int x) (Int y) = sym (then_equal (int_cmp x y))
value_cmp-parts (Int x) (Words t) = refl
value_cmp-parts (Words s) (Int y) = refl
value_cmp-parts (Words s) (Words t) = refl

pub value_cmp_total : IsTotalOrder value_cmp
value_cmp_total =
    let parts = then_total (on_total value_tag nat_cmp_total) (then_total (on_total value_number int_cmp_total) (on_total value_bytes nat_list_cmp_total)) in
    record {
      antisymm = λ x y. rw (value_cmp-parts x y, value_cmp-parts y x) (parts.antisymm x y);
      trans = λ x y z e f.
          rw (value_cmp-parts x z) (parts.trans x y z (sym (value_cmp-parts x y) ∙ e) (sym (value_cmp-parts y z) ∙ f));
      congr = λ x y z e. rw (value_cmp-parts x z, value_cmp-parts y z) (parts.congr x y z (sym (value_cmp-parts x y) ∙ e));
    }

pub value_ties : (x y : Value) → of_value.eq x y ≡ eq_by_cmp value_cmp x y
value_ties (Int x) (Int y) = refl
value_ties (Int x) (Words t) = refl
value_ties (Words s) (Int y) = refl
value_ties (Words s) (Words t) = texts_ties s t

pub label_cmp_total : IsTotalOrder label_cmp
label_cmp_total =
    then_total (on_total (λ (label : Label). label.name) nat_list_cmp_total)
    (on_total (λ (label : Label). label.args) (lists_total value_cmp_total))

pub label_ties : (x y : Label) → of_label.eq x y ≡ eq_by_cmp label_cmp x y
label_ties x y =
    both_tied _ _ (bytes_cmp x.name y.name) (slice_cmp value_cmp x.args y.args) (texts_ties x.name y.name)
    (lists_ties value_cmp value_ties x.args y.args)
