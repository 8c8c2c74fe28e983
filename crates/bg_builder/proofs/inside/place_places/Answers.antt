use Rattle.std.proofs.Common.{◌<◌, length, arith}
use Rattle.bg_builder.specs.Inside.{place_at}
use Rattle.bg_builder.proofs.InPlace.{changed_next}
use Rattle.bg_builder.proofs.inside.place_places.Goals as goal

pub loop-place-preserved : goal.loop-place-preserved
loop-place-preserved c =
    let below : c.loop-place.place-index < length c.args.places.now = omega arith in
    changed_next (place_at c.args.sites.now) c.args.places.now c.loop-place.places c.loop-place.place-index _ c.place_at.result below c.loop-place.invariant c.place_at.ensures
