use Rattle.std.proofs.Common.{◌≡◌, take, map}
use Rattle.bg_builder.specs.Inside.{link_by}
use Rattle.bg_builder.proofs.inside.links_by.Given as goal

abbrev pub invariant-loop-link : goal.invariant-loop-link
invariant-loop-link l = l.made.items ≡ map (link_by l.inner) (take l.link-index l.links)
