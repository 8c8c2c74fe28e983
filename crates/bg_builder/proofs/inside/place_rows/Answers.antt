use Rattle.std.proofs.Common.{◌<◌, length, slice_index_or, arith}
use Rattle.bg_builder.specs.Inside.{row_at}
use Rattle.bg_builder.proofs.InPlace.{changed_next}
use Rattle.bg_builder.proofs.inside.place_rows.Goals as goal

pub loop-row-preserved : goal.loop-row-preserved
loop-row-preserved c =
    let below : c.loop-row.row-index < length c.args.rows.now = omega arith in
    let row = slice_index_or c.loop-row.rows c.loop-row.row-index c.row-item.result in
    changed_next (row_at c.args.sites.now) c.args.rows.now c.loop-row.rows c.loop-row.row-index c.row-item.result (record row { parent = c.place_at-row.result }) below c.loop-row.invariant
    (λ t. record row { parent = c.place_at-row.ensures t })
