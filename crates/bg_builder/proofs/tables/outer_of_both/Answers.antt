use Rattle.bg_builder.proofs.Trees.{names_of_both}
use Rattle.bg_builder.proofs.tables.outer_of_both.Goals as goal

pub returns : goal.returns
returns c = names_of_both c.args.first.keys c.args.second.keys c.append.new.self.keys c.append.ensures.ordered c.in_ok-append.ensures.inserts_all.0
