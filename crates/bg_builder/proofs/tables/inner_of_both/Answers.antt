use Rattle.bg_builder.proofs.Trees.{rows_in_both}
use Rattle.bg_builder.proofs.tables.inner_of_both.Goals as goal

pub returns : goal.returns
returns c =
    rows_in_both c.args.first.entries c.args.second.entries c.append.new.self.entries c.len-count.ensures.ordered c.append.ensures.other_was_ordered c.append.ensures.ordered
    c.requires c.in_ok-append.ensures.inserts_all.0
