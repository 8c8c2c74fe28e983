use Rattle.std.proofs.Common.{rules, ◌++◌, ap, ◌∙◌}
use Rattle.std.proofs.lemmas.List.Sorted.{answers_always, IsNonDecreasingBy-from_sort}
use Rattle.bg_index.specs.Arrivals.{arrival_rank, arrived_from}
use Rattle.bg_index.proofs.ArrivalLaws.{arrivals_sorted}
use Rattle.bg_index.proofs.point_arrivals.arrivals_of.Goals as goal

pub returns : goal.returns
returns c =
    arrivals_sorted c.args.host.now.big.outer c.args.rows.now c.push_rows.new.made.items c.sort_by_key.new.self.items
    (c.in_ok-push_rows.ensures ∙ ap (λ xs. xs ++ arrived_from c.args.host.now.big.outer c.args.rows.now) c.new-made.ensures.items)
    (IsNonDecreasingBy-from_sort arrival_rank c.sort_by_key.new.self.items
    (c.in_ok-sort_by_key.ensures.sorted arrival_rank (answers_always _ _ _ (λ f a r g called. search rules))))
    (c.sort_by_key.ensures.stable arrival_rank (answers_always _ _ _ (λ f a r g called. search rules)))
