use Rattle.std.proofs.Common.{get_or, sym, subst}
use Rattle.bg_lists.proofs.Places.{At-get_or, Mem-from_At}
use Rattle.bg_index.specs.Copying.{IsRoomFor}
use Rattle.bg_index.proofs.new_rows.rows_made.Goals as goal

pub row_made-requires-clause-room : goal.row_made-requires-clause-room
row_made-requires-clause-room c =
    subst (IsRoomFor c.args.host.now) (sym c.row-item.is)
    (c.requires.room (get_or c.args.rows.now c.loop-row.row-index c.row-item.result)
    (Mem-from_At (At-get_or c.args.rows.now c.loop-row.row-index c.row-item.result c.loop-row-test.true)))
