use Rattle.std.proofs.Common.{rules, of_calls, ltb, leb, ℕ, ap, ◌∙◌}
use Rattle.std.proofs.lemmas.Fn.{always_returns_same}
use Rattle.bg_base.specs.declared.big.Big.{Big}
use Rattle.bg_rules.specs.Instantiation.{part}
use Rattle.bg_react.proofs.Grouped.{found_rows}
use Rattle.bg_react.proofs.parts.Parts.part.Goals as goal

pub returns : goal.returns
returns c =
    found_rows c.self.inside.parameter.now c.self.inside.regions.items c.deref.result.now c.deref-2.result.now c.self.inside.rows.items c.deref-3.result.now
    c.args.region c.partition_point-start.result c.partition_point-count.result c.self.invariant.1
    c.deref.ensures.value c.deref-2.ensures.value c.deref-3.ensures.value c.partition_point-start.ensures.bound
    (c.partition_point-start.ensures.partitioned (λ (other : ℕ). ltb other c.args.region)
    (always_returns_same _ _ _ (λ a r f k. search (rules, of_calls))))
    (c.partition_point-count.ensures.partitioned (λ (other : ℕ). leb other c.args.region)
    (always_returns_same _ _ _ (λ a r f k. search (rules, of_calls))))
    ∙ ap (λ (parameter : Big). part parameter c.args.region) c.self.view_is
