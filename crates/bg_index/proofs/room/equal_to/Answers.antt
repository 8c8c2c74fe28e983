use Rattle.std.proofs.Common.{ℕ, rules, of_calls, ltb, leb}
use Rattle.std.proofs.lemmas.Fn.{always_returns_same}
use Rattle.bg_index.proofs.RoomLaws.{equal_found}
use Rattle.bg_index.proofs.room.equal_to.Goals as goal

pub returns : goal.returns
returns c =
    equal_found c.args.numbers.now c.args.number c.partition_point-start.result c.partition_point-count.result c.requires.rise
    c.partition_point-start.ensures.bound
    (c.partition_point-start.ensures.partitioned (λ (y : ℕ). ltb y c.args.number) (always_returns_same _ _ _ (λ a r f k. search (rules, of_calls))))
    (c.partition_point-count.ensures.partitioned (λ (y : ℕ). leb y c.args.number) (always_returns_same _ _ _ (λ a r f k. search (rules, of_calls))))
