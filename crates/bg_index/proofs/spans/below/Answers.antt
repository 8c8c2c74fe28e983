use Rattle.std.proofs.Common.{ℕ, rules, of_calls, ltb}
use Rattle.std.proofs.lemmas.Fn.{always_returns_same}
use Rattle.bg_index.proofs.SpanLaws.{below_found}
use Rattle.bg_index.proofs.spans.below.Goals as goal

pub returns : goal.returns
returns c =
    below_found c.args.numbers.now c.args.number c.partition_point-count.result c.requires.ascending c.partition_point-count.ensures.bound
    (c.partition_point-count.ensures.partitioned (λ (y : ℕ). ltb y c.args.number) (always_returns_same _ _ _ (λ a r f k. search (rules, of_calls))))
