use Rattle.std.proofs.Common.{rules, ap, map, ◌∙◌}
use Rattle.std.proofs.lemmas.List.Sorted.{answers_always, IsNonDecreasingBy-from_sort}
use Rattle.bg_react.specs.Parts.{member_region}
use Rattle.bg_react.proofs.Grouped.{grouped_by}
use Rattle.bg_react.proofs.parts.Parts.of.Goals as goal

pub invariant_of-result : goal.invariant_of-result
invariant_of-result c = (
  c.requires.valid,
  grouped_by c.args.parameter.now c.in_ok-members.members.items c.sort_by_key.new.self.items c.in_ok-regions.regions.items c.in_ok-rows.rows.items
      c.in_ok-members.ensures
      (IsNonDecreasingBy-from_sort member_region c.sort_by_key.new.self.items
      (c.in_ok-sort_by_key.ensures.sorted member_region (answers_always _ _ _ (λ f a r g called. search rules))))
      (c.sort_by_key.ensures.stable member_region (answers_always _ _ _ (λ f a r g called. search rules)))
      (c.in_ok-regions.ensures ∙ ap (map member_region) c.as_slice.ensures.value)
      c.in_ok-rows.ensures,
)
