use Rattle.std.proofs.Common.{◌<◌, length, arith}
use Rattle.bg_builder.specs.Inside.{row_by}
use Rattle.bg_builder.proofs.InPlace.{changed_next}
use Rattle.bg_builder.proofs.inside.link_rows.Goals as goal

pub loop-row-preserved : goal.loop-row-preserved
loop-row-preserved c =
    let below : c.loop-row.row-index < length c.args.rows.now = omega arith in
    changed_next (row_by c.args.inner.now) c.args.rows.now c.loop-row.rows c.loop-row.row-index c.row-item.result c.link_row.new.row below c.loop-row.invariant c.in_ok-link_row.ensures
