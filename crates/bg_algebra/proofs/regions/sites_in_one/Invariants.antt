use Rattle.std.proofs.Common.{◌≡◌, take, map}
use Rattle.bg_base.specs.Products.{place_in_one}
use Rattle.bg_algebra.proofs.regions.sites_in_one.Given as goal

abbrev pub invariant-loop-place : goal.invariant-loop-place
invariant-loop-place l = l.made.items ≡ map place_in_one (take l.place-index l.sites)
