use Rattle.std.proofs.Common.{◌≡◌, map, ℕ}
use Rattle.bg_base.specs.declared.names.Place.TheVariants.{Region}
use Rattle.bg_base.specs.Elementary.{counted}
use Rattle.bg_algebra.proofs.elementary.sites_in_one_region.Given as goal

abbrev pub invariant-loop-site : goal.invariant-loop-site
invariant-loop-site l = l.sites.items ≡ map (λ (site : ℕ). Region 0) (counted 0 l._site)
