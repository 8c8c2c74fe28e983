use Rattle.std.proofs.Common.{rules, ◌≡◌, ◌<◌, IfOk, slice_get, Some, FitsSigned, w64, ap, sym, subst, ◌∙◌}
use Rattle.std.proofs.lemmas.Int.{to_z-of_z}
use Rattle.bg_base.specs.declared.labels.Value.TheVariants.{Int}
use Rattle.bg_values.specs.KeptValues.{values_kept}
use Rattle.bg_values.proofs.KeptLaws.{count_kept, number_kept}
use Rattle.bg_values.proofs.values.ParameterValues.value.Goals as goal

pub number_after-requires-clause-within : goal.number_after-requires-clause-within
number_after-requires-clause-within c =
    let many = count_kept c.self.inside.kept c.in-Range.bounds c.args.self.now c.in-Range.is c.self.view_is in
    subst (λ n. c.args.place < n) (sym many) c.requires

pub value_at-requires : goal.value_at-requires
value_at-requires c =
    let same = ap values_kept (sym c.in-Listed.is) ∙ c.self.view_is in
    search (rules, same)

pub returns-in-Listed : goal.returns-in-Listed
returns-in-Listed c =
    let same = ap values_kept (sym c.in-Listed.is) ∙ c.self.view_is in
    subst (λ vs. IfOk c.value_at.result (λ value. slice_get vs c.args.place ≡ Some value)) (c.as_ref.ensures ∙ same) c.value_at.ensures

pub returns-in-Range : goal.returns-in-Range
returns-in-Range c =
    let fits : FitsSigned w64 c.number_after.result = search rules in
    let many = count_kept c.self.inside.kept c.in-Range.bounds c.args.self.now c.in-Range.is c.self.view_is in
    number_kept c.self.inside.kept c.in-Range.bounds c.args.self.now c.args.place c.in-Range.is c.self.view_is
    (subst (λ n. c.args.place < n) (sym many) c.requires)
    ∙ ap Some (sym (ap Int (to_z-of_z w64 c.number_after.result fits) ∙ c.number_after.ensures))
