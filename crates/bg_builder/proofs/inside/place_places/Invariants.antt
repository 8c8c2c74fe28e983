use Rattle.std.proofs.Common.{◌≡◌, ◌++◌, take, drop, map}
use Rattle.bg_builder.specs.Inside.{place_at}
use Rattle.bg_builder.proofs.inside.place_places.Given as goal

abbrev pub invariant-loop-place : goal.invariant-loop-place
invariant-loop-place l = l.places ≡ map (place_at l.sites) (take l.place-index l.initial.places) ++ drop l.place-index l.initial.places
