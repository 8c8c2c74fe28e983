use Rattle.std.proofs.Common.{◌≡◌, take, map}
use Rattle.bg_base.specs.Products.{link_closed}
use Rattle.bg_builder.proofs.inside.closed_links.Given as goal

abbrev pub invariant-loop-link : goal.invariant-loop-link
invariant-loop-link l = l.made.items ≡ map (link_closed l.name l.edge) (take l.link-index l.links)
