use Rattle.bg_builder.proofs.Moved.{of_rows}
use Rattle.bg_builder.proofs.composition.whole.Goals as goal

pub returns : goal.returns
returns c =
    of_rows c.args.g c.args.f c.in_ok-nodes.nodes c.in_ok-edges.edges c.sites_through-sites.result c.in_ok-inner.inner c.in_ok-nodes.ensures c.in_ok-edges.ensures
    c.sites_through-sites.ensures c.in_ok-inner.ensures
