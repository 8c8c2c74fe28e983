use Rattle.std.proofs.Common.{◌≡◌, ◌++◌, take, drop, map}
use Rattle.bg_base.specs.Products.{place_beside}
use Rattle.bg_builder.proofs.inside.raise_places.Given as goal

abbrev pub invariant-loop-place : goal.invariant-loop-place
invariant-loop-place l = l.places ≡ map (place_beside l.width) (take l.place-index l.initial.places) ++ drop l.place-index l.initial.places
