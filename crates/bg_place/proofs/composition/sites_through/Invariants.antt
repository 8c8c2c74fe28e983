use Rattle.std.proofs.Common.{◌≡◌, take, map}
use Rattle.bg_base.specs.Composition.{place_through}
use Rattle.bg_place.proofs.composition.sites_through.Given as goal

abbrev pub invariant-loop-place : goal.invariant-loop-place
invariant-loop-place l = l.made.items ≡ map (place_through l.g) (take l.place-index l.sites)
