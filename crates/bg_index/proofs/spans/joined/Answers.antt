use Rattle.bg_index.proofs.SpanLaws.{joined_same, spliced_ascends}
use Rattle.bg_index.proofs.spans.joined.Goals as goal

pub returns-clause-ascending : goal.returns-clause-ascending
returns-clause-ascending c =
    spliced_ascends c.args.arrivals.now c.args.arrivals.now c.args.numbers.now c.in_ok-made.made.items c.requires.ascending c.requires.arrivals_ascend
    c.in_ok-made.ensures

pub returns-clause-same : goal.returns-clause-same
returns-clause-same c = joined_same c.args.numbers.now c.args.arrivals.now c.in_ok-made.made.items c.requires.arrivals_ascend c.in_ok-made.ensures
