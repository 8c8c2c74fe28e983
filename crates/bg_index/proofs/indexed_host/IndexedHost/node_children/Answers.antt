use Rattle.std.proofs.Common.{sym, ap, is_some}
use Rattle.bg_base.specs.declared.names.Place.TheVariants.{Node}
use Rattle.bg_place.proofs.AbsentLaws.{no_children}
use Rattle.bg_index.proofs.indexed_host.IndexedHost.node_children.Goals as goal

pub returns-in-None : goal.returns-in-None
returns-in-None c =
    sym (no_children c.args.self.now.big (Node c.args.node) c.entry.ensures.kept.numbered.ground.valid (ap is_some c.in-None.ensures.found))
