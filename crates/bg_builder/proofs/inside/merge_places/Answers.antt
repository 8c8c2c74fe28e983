use Rattle.std.proofs.Common.{◌<◌, length, arith}
use Rattle.bg_base.specs.Products.{place_in_one}
use Rattle.bg_builder.proofs.InPlace.{changed_next}
use Rattle.bg_builder.proofs.inside.merge_places.Goals as goal

pub loop-place-preserved : goal.loop-place-preserved
loop-place-preserved c =
    let below : c.loop-place.place-index < length c.args.places.now = omega arith in
    changed_next place_in_one c.args.places.now c.loop-place.places c.loop-place.place-index _ c.in_one.result below c.loop-place.invariant c.in_one.ensures
