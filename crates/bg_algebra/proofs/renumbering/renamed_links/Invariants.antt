use Rattle.std.proofs.Common.{◌≡◌, take, map}
use Rattle.bg_base.specs.Translation as translation
use Rattle.bg_algebra.proofs.renumbering.renamed_links.Given as goal

abbrev pub invariant-loop-link : goal.invariant-loop-link
invariant-loop-link l = l.made.items ≡ map (translation.link_renamed l.big l.edges) (take l.link-index l.links)
