use Rattle.std.proofs.Common.{◌∙◌}
use Rattle.bg_index.proofs.SpanLaws.{none_ascends, without_is}
use Rattle.bg_index.proofs.spans.without.Goals as goal

pub spliced-requires-clause-stand_ascend : goal.spliced-requires-clause-stand_ascend
spliced-requires-clause-stand_ascend c = none_ascends

pub returns : goal.returns
returns c = c.in_ok-made.ensures ∙ without_is c.args.others.now c.args.numbers.now c.requires.ascending c.requires.others_ascend
