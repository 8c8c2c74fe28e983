use Rattle.std.proofs.Common.{◌≡◌, map}
use Rattle.bg_base.specs.Elementary.{counted}
use Rattle.bg_decompose.specs.Parts.{site_place}
use Rattle.bg_decompose.proofs.context.sites_of.Given as goal

abbrev pub invariant-loop-region : goal.invariant-loop-region
invariant-loop-region l = l.made.items ≡ map (site_place l.host l.pattern l.map) (counted 0 l.region)
