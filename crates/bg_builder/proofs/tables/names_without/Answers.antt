use Rattle.std.proofs.Common.{◌∙◌}
use Rattle.bg_builder.proofs.Trees.{without_name}
use Rattle.bg_builder.proofs.tables.names_without.Goals as goal

pub returns : goal.returns
returns c = c.remove-there.ensures.keys ∙ without_name c.args.name.now c.args.names.keys c.len-count.ensures.ordered
