use Rattle.std.proofs.Common.{List, ℕ, filter, ap, ◌∙◌}
use Rattle.bg_decompose.specs.Marks.{is_outside, is_inside}
use Rattle.bg_decompose.proofs.Covered.{outside_copy, inside_copy}
use Rattle.bg_decompose.proofs.marks.sides_of.Goals as goal

pub returns-clause-outside : goal.returns-clause-outside
returns-clause-outside c =
    let host = c.args.host.now in
    c.in_ok-outside.ensures ∙ ap (λ (images : List ℕ). filter (is_outside host images) host.nodes) c.as_slice-3.ensures.value
    ∙ outside_copy host c.args.map.now c.in_ok-images.images.items c.in_ok-images.ensures

pub returns-clause-inside : goal.returns-clause-inside
returns-clause-inside c =
    let host = c.args.host.now in
    c.in_ok-inside.ensures.value ∙ ap (λ (images : List ℕ). filter (is_inside host images) host.nodes) c.as_slice-2.ensures.value
    ∙ inside_copy host c.args.map.now c.in_ok-images.images.items c.in_ok-images.ensures
