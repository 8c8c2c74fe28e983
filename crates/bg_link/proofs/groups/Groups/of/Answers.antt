use Rattle.std.proofs.Common.{rules, ap, map, subst, ◌∙◌}
use Rattle.std.specs.List.Sorted.{IsStableBy}
use Rattle.std.proofs.Common.{is_lt, nat_cmp}
use Rattle.std.proofs.lemmas.List.Sorted.{answers_always, IsNonDecreasingBy-from_sort}
use Rattle.bg_link.specs.Rows.{rank_of}
use Rattle.bg_link.proofs.GroupLaws.{grouped_by}
use Rattle.bg_link.proofs.groups.Groups.of.Goals as goal

pub invariant_of-result : goal.invariant_of-result
invariant_of-result c =
    record {
      linked = c.requires.linked;
      grouped = grouped_by c.args.links c.sort_by_key.new.self.items c.in_ok-ranks.ranks.items c.in_ok-points.points
          (IsNonDecreasingBy-from_sort rank_of c.sort_by_key.new.self.items
          (c.in_ok-sort_by_key.ensures.sorted rank_of (answers_always _ _ _ (λ f a r g called. search rules))))
          (subst (λ rows. IsStableBy (λ x y. is_lt (nat_cmp (rank_of x) (rank_of y))) rows c.sort_by_key.new.self.items) c.in_ok-rows.ensures
          (c.sort_by_key.ensures.stable rank_of (answers_always _ _ _ (λ f a r g called. search rules))))
          (c.in_ok-ranks.ensures ∙ ap (map rank_of) c.as_slice.ensures.value)
          (c.in_ok-points.ensures.same ∙ c.in_ok-points_alone.ensures);
    }
