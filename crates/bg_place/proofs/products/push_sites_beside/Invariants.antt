use Rattle.std.proofs.Common.{◌≡◌, ◌++◌, take, map}
use Rattle.bg_base.specs.Products.{place_beside}
use Rattle.bg_place.proofs.products.push_sites_beside.Given as goal

abbrev pub invariant-loop-place : goal.invariant-loop-place
invariant-loop-place l = l.sites.items ≡ l.initial.sites.items ++ map (place_beside l.f.regions) (take l.place-index l.places)
