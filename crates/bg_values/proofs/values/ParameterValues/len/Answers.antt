use Rattle.std.proofs.Common.{◌∙◌}
use Rattle.bg_values.proofs.KeptLaws.{count_kept}
use Rattle.bg_values.proofs.values.ParameterValues.len.Goals as goal

pub returns-in-Range : goal.returns-in-Range
returns-in-Range c = c.count_of.ensures ∙ count_kept c.self.inside.kept c.in-Range.bounds c.args.self.now c.in-Range.is c.self.view_is
