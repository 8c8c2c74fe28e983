use Rattle.std.proofs.Common.{ℕ, rules, of_calls, leb}
use Rattle.std.proofs.lemmas.Fn.{always_returns_same}
use Rattle.bg_index.proofs.SpanLaws.{above_found}
use Rattle.bg_index.proofs.spans.above.Goals as goal

pub returns : goal.returns
returns c =
    above_found c.args.numbers.now c.args.number c.partition_point-start.result c.requires.ascending c.partition_point-start.ensures.bound
    (c.partition_point-start.ensures.partitioned (λ (y : ℕ). leb y c.args.number) (always_returns_same _ _ _ (λ a r f k. search (rules, of_calls))))
