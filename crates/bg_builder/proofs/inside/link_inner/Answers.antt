use Rattle.std.proofs.Common.{◌<◌, length, arith}
use Rattle.bg_builder.specs.Inside.{inner_by}
use Rattle.bg_builder.proofs.InPlace.{changed_next}
use Rattle.bg_builder.proofs.inside.link_inner.Goals as goal

pub loop-row-preserved : goal.loop-row-preserved
loop-row-preserved c =
    let below : c.loop-row.row-index < length c.args.rows.now = omega arith in
    changed_next (inner_by c.args.inner.now) c.args.rows.now c.loop-row.rows c.loop-row.row-index c.row-item.result c.link_inner_row.new.row below c.loop-row.invariant c.in_ok-link_inner_row.ensures
