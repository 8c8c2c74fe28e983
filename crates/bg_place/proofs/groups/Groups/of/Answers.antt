use Rattle.std.proofs.Common.{rules, ap, map, ◌∙◌}
use Rattle.std.proofs.lemmas.List.Sorted.{answers_always, IsNonDecreasingBy-from_sort}
use Rattle.bg_place.specs.Rows.{row_rank}
use Rattle.bg_place.specs.Places.{node_number}
use Rattle.bg_place.proofs.GroupLaws.{stable_groups}
use Rattle.bg_place.proofs.groups.Groups.of.Goals as goal

pub invariant_of-result : goal.invariant_of-result
invariant_of-result c =
    record {
      rise = IsNonDecreasingBy-from_sort row_rank c.sort_by_key.new.self.items
          (c.in_ok-sort_by_key.ensures.sorted row_rank (answers_always _ _ _ (λ f a r g called. search rules)));
      same = c.in_ok-numbers.ensures ∙ ap (λ xs. map node_number xs) c.as_slice.ensures.value;
    }

pub returns : goal.returns
returns c =
    stable_groups c.sort_by_key.new.self.items c.args.rows.items
    (c.sort_by_key.ensures.stable row_rank (answers_always _ _ _ (λ f a r g called. search rules)))
