use Rattle.std.proofs.Common.{◌∙◌}
use Rattle.bg_index.proofs.IndexLaws.{entry_there}
use Rattle.bg_index.proofs.indexed_host.IndexedHost.contains.Goals as goal

pub returns : goal.returns
returns c =
    c.is_some.ensures
    ∙ entry_there c.self.inside.index c.self.invariant c.args.self.now c.self.view_is c.args.node c.entry.result c.entry.ensures.found
