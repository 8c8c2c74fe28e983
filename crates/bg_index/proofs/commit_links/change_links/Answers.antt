use Rattle.std.proofs.Common.{sym, subst}
use Rattle.std.specs.List.Sorted.{IsStrictlySortedBy}
use Rattle.bg_index.specs.Indexed.{edge_cmp}
use Rattle.bg_index.proofs.CommitLinkLaws.{before_ascends, edges_after, left_can_take}
use Rattle.bg_index.proofs.commit_links.change_links.Goals as goal

pub change_bundles-requires-clause-ascending : goal.change_bundles-requires-clause-ascending
change_bundles-requires-clause-ascending c =
    subst (IsStrictlySortedBy edge_cmp) (sym c.drop_edges.ensures.kept) (before_ascends c.args.edges.now.items c.args.idle.now c.requires.ascending)

pub change_bundles-requires-clause-edges_take : goal.change_bundles-requires-clause-edges_take
change_bundles-requires-clause-edges_take c =
    left_can_take c.args.edges.now.items c.args.idle.now c.drop_edges.new.edges.items c.args.bundles.items c.drop_edges.ensures.kept c.requires.edges_take

pub returns-clause-edges : goal.returns-clause-edges
returns-clause-edges c =
    edges_after c.args.edges.now.items c.args.idle.now c.args.gone.now c.drop_edges.new.edges.items c.change_bundles.new.edges.items c.push_edges.new.edges.items
    c.args.bundles.items c.args.used.items c.drop_edges.ensures.kept c.change_bundles.ensures.edges c.push_edges.ensures
