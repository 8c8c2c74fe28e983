use Rattle.std.proofs.Common.{◌<◌, length, arith}
use Rattle.bg_base.specs.Products.{inner_closed}
use Rattle.bg_builder.proofs.InPlace.{changed_next}
use Rattle.bg_builder.proofs.inside.close_inner.Goals as goal

pub loop-row-preserved : goal.loop-row-preserved
loop-row-preserved c =
    let below : c.loop-row.row-index < length c.args.rows.now = omega arith in
    changed_next (inner_closed c.args.name.now c.args.edge) c.args.rows.now c.loop-row.rows c.loop-row.row-index c.row-item.result c.close_inner_row.new.row below c.loop-row.invariant c.close_inner_row.ensures
