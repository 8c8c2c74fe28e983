use Rattle.std.proofs.Common.{◌≡◌, map}
use Rattle.bg_base.specs.declared.names.Place.TheVariants.{Region}
use Rattle.bg_base.specs.Elementary.{counted}
use Rattle.bg_algebra.proofs.elementary.sites_in_regions.Given as goal

abbrev pub invariant-loop-region : goal.invariant-loop-region
invariant-loop-region l = l.sites.items ≡ map Region (counted 0 l.region)
