use Rattle.std.proofs.Common.{rules, of_calls, ltb, leb}
use Rattle.std.proofs.lemmas.Fn.{always_returns_same}
use Rattle.bg_index.specs.declared.point_arrivals.Arrival.{Arrival}
use Rattle.bg_index.specs.Arrivals.{arrival_rank}
use Rattle.bg_index.proofs.ArrivalLaws.{arriving_found}
use Rattle.bg_index.proofs.point_arrivals.arriving.Goals as goal

pub returns : goal.returns
returns c =
    arriving_found c.args.arrivals.now c.args.key c.rank-wanted.result c.partition_point-start.result c.partition_point-count.result c.requires.rise
    c.rank-wanted.ensures c.partition_point-start.ensures.bound
    (c.partition_point-start.ensures.partitioned (λ (y : Arrival). ltb (arrival_rank y) c.rank-wanted.result)
    (always_returns_same _ _ _ (λ a r f k. search (rules, of_calls))))
    (c.partition_point-count.ensures.partitioned (λ (y : Arrival). leb (arrival_rank y) c.rank-wanted.result)
    (always_returns_same _ _ _ (λ a r f k. search (rules, of_calls))))
