use Rattle.std.proofs.Common.{List, ℕ, ap, ◌∙◌}
use Rattle.bg_index.proofs.SpanLaws.{changed_same, spliced_ascends}
use Rattle.bg_index.specs.Spans.{spliced}
use Rattle.bg_index.proofs.spans.changed.Goals as goal

pub returns-clause-ascending : goal.returns-clause-ascending
returns-clause-ascending c =
    spliced_ascends c.args.arrivals.now c.in_ok-cuts.cuts.items c.args.numbers.now c.in_ok-made.made.items c.requires.ascending c.in_ok-cuts.ensures.ascending
    (c.in_ok-made.ensures ∙ ap (λ (cuts : List ℕ). spliced c.args.arrivals.now cuts c.args.numbers.now) c.deref.ensures.value)

pub returns-clause-same : goal.returns-clause-same
returns-clause-same c =
    changed_same c.args.numbers.now c.args.gone.now c.args.arrivals.now c.in_ok-cuts.cuts.items c.in_ok-made.made.items c.in_ok-cuts.ensures.ascending
    c.in_ok-cuts.ensures.same
    (c.in_ok-made.ensures ∙ ap (λ (cuts : List ℕ). spliced c.args.arrivals.now cuts c.args.numbers.now) c.deref.ensures.value)
