-- What is kept of values, case by case.
use Rattle.std.proofs.Common.{◌≡◌, ◌+◌, ◌<◌, ℕ, List, length, slice_get, Some, option_map, arith, sym, ap, ◌∙◌}
use Rattle.std.proofs.lemmas.List.{length-map}
use Rattle.std.proofs.lemmas.Option.{slice_get-map}
use Rattle.bg_base.specs.declared.labels.Value.{Value}
use Rattle.bg_base.specs.Elementary.{counted}
use Rattle.bg_base.proofs.Counted.{length-counted, slice_get-counted}
use Rattle.bg_values.specs.declared.values.Bounds.{Bounds}
use Rattle.bg_values.specs.declared.values.Kept.{Kept}
use Rattle.bg_values.specs.declared.values.Kept.TheVariants.{Range}
use Rattle.bg_values.specs.KeptValues.{values_kept}
use Rattle.bg_values.specs.Parameters.{count, number_after}

-- a range has as many values as it has numbers
pub count_kept : (kept : Kept) (bounds : Bounds) (values : List Value) → kept ≡ Range bounds → values_kept kept ≡ values
    → count bounds.first bounds.step bounds.end ≡ length values
count_kept kept bounds values is seen =
    let many = count bounds.first bounds.step bounds.end in
    let f = number_after bounds.first bounds.step in
    sym (length-counted 0 many) ∙ sym (length-map (counted 0 many) f) ∙ ap (λ k. length (values_kept k)) (sym is) ∙ ap length seen

-- the value at a place of a range
pub number_kept : (kept : Kept) (bounds : Bounds) (values : List Value) (place : ℕ) → kept ≡ Range bounds → values_kept kept ≡ values
    → place < count bounds.first bounds.step bounds.end → slice_get values place ≡ Some (number_after bounds.first bounds.step place)
number_kept kept bounds values place is seen l =
    let many = count bounds.first bounds.step bounds.end in
    let f = number_after bounds.first bounds.step in
    ap (λ vs. slice_get vs place) (sym seen ∙ ap values_kept is) ∙ slice_get-map f (counted 0 many) place
    ∙ ap (option_map f) (slice_get-counted 0 many place l) ∙ ap (λ n. Some (f n)) (let e : 0 + place ≡ place = omega arith in e)
