use Rattle.std.proofs.Common.{◌≡◌, take, map}
use Rattle.bg_base.specs.Composition.{link_through}
use Rattle.bg_link.proofs.through.link_list_through.Given as goal

abbrev pub invariant-loop-link : goal.invariant-loop-link
invariant-loop-link l = l.made.items ≡ map (link_through l.g) (take l.link-index l.links)
