use Rattle.std.proofs.Common.{get_or}
use Rattle.bg_lists.proofs.Places.{At-get_or, Mem-from_At}
use Rattle.bg_index.proofs.making.rows_of.Goals as goal

pub row_at-requires : goal.row_at-requires
row_at-requires c =
    record {
      there = c.requires.there (get_or c.args.slots.now c.loop-slot.slot-index (record { node = 0; at = 0 }))
          (Mem-from_At (At-get_or c.args.slots.now c.loop-slot.slot-index (record { node = 0; at = 0 }) c.loop-slot-test.true));
    }
