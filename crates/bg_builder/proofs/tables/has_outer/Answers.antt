use Rattle.std.proofs.Common.{◌∙◌}
use Rattle.bg_builder.proofs.Trees.{outer_found}
use Rattle.bg_builder.proofs.tables.has_outer.Goals as goal

pub returns : goal.returns
returns c = c.contains.ensures ∙ outer_found c.args.names.now.keys c.args.name.now
