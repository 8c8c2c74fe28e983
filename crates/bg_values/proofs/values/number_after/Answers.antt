use Rattle.std.proofs.Common.{rules, ap, sym, subst, ◌∙◌, FitsSigned, w64, to_z, of_z, pos, ◌+ℤ◌, ◌*ℤ◌}
use Rattle.std.specs.Int.{w128}
use Rattle.std.proofs.lemmas.Int.{to_z-of_z}
use Rattle.bg_base.specs.declared.labels.Value.TheVariants.{Int}
use Rattle.bg_values.proofs.Ranges.{after_lies_between, between_fits}
use Rattle.bg_values.proofs.values.number_after.Goals as goal

pub overflow_cast-result : goal.overflow_cast-result
overflow_cast-result c =
    let bounds = c.args.bounds.now in
    let first : FitsSigned w64 bounds.first = search rules in
    let end : FitsSigned w64 bounds.end = search rules in
    let wide : FitsSigned w128 c.number_beyond.result = search rules in
    let number = bounds.first +ℤ (pos c.args.steps *ℤ bounds.step) in
    let fits = between_fits bounds.first bounds.end number first end
    (after_lies_between bounds.first bounds.step bounds.end c.args.steps c.requires.filled c.requires.within) in
    subst (FitsSigned w64) (sym (to_z-of_z w128 c.number_beyond.result wide ∙ c.number_beyond.ensures)) fits

pub returns : goal.returns
returns c =
    let bounds = c.args.bounds.now in
    let first : FitsSigned w64 bounds.first = search rules in
    let end : FitsSigned w64 bounds.end = search rules in
    let wide : FitsSigned w128 c.number_beyond.result = search rules in
    let number = bounds.first +ℤ (pos c.args.steps *ℤ bounds.step) in
    let fits = between_fits bounds.first bounds.end number first end
    (after_lies_between bounds.first bounds.step bounds.end c.args.steps c.requires.filled c.requires.within) in
    ap (λ z. Int (to_z w64 (of_z w64 z))) (to_z-of_z w128 c.number_beyond.result wide ∙ c.number_beyond.ensures)
    ∙ ap Int (to_z-of_z w64 number fits)
