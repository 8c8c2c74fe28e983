use Rattle.std.proofs.Common.{rules, of_calls, ltb, leb, ap, ◌∙◌}
use Rattle.std.proofs.lemmas.Fn.{always_returns_same}
use Rattle.bg_place.specs.declared.graph.ParentRow.{ParentRow}
use Rattle.bg_place.specs.Places.{numbers_in}
use Rattle.bg_place.specs.Rows.{row_rank}
use Rattle.bg_place.proofs.GroupLaws.{searched}
use Rattle.bg_index.proofs.arrivals.NodesByPlace.in_place.Goals as goal

pub returns : goal.returns
returns c =
    searched c.args.place c.self.inside.rows.items c.deref.result.now c.deref-2.result.now c.self.inside.nodes.items c.deref-3.result.now
    c.rank-wanted.result c.partition_point-start.result c.partition_point-count.result c.self.invariant c.rank-wanted.ensures
    c.deref.ensures.value c.deref-2.ensures.value c.deref-3.ensures.value c.partition_point-start.ensures.bound
    (c.partition_point-start.ensures.partitioned (λ (y : ParentRow). ltb (row_rank y) c.rank-wanted.result)
    (always_returns_same _ _ _ (λ a r f k. search (rules, of_calls))))
    (c.partition_point-count.ensures.partitioned (λ (y : ParentRow). leb (row_rank y) c.rank-wanted.result)
    (always_returns_same _ _ _ (λ a r f k. search (rules, of_calls))))
    ∙ ap (numbers_in c.args.place) c.self.view_is
