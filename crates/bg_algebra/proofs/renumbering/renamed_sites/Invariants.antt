use Rattle.std.proofs.Common.{◌≡◌, take, map}
use Rattle.bg_base.specs.Translation as translation
use Rattle.bg_algebra.proofs.renumbering.renamed_sites.Given as goal

abbrev pub invariant-loop-place : goal.invariant-loop-place
invariant-loop-place l = l.made.items ≡ map (translation.place_renamed l.big l.nodes) (take l.place-index l.sites)
