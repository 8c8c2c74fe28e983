use Rattle.std.proofs.Common.{◌≡◌, ◌++◌, take, drop, map}
use Rattle.bg_base.specs.Products.{place_in_one}
use Rattle.bg_builder.proofs.inside.merge_places.Given as goal

abbrev pub invariant-loop-place : goal.invariant-loop-place
invariant-loop-place l = l.places ≡ map place_in_one (take l.place-index l.initial.places) ++ drop l.place-index l.initial.places
