use Rattle.std.proofs.Common.{get_or}
use Rattle.bg_lists.proofs.Places.{At-get_or, Mem-from_At}
use Rattle.bg_index.proofs.causes.tell_names.Goals as goal

pub name_link-requires : goal.name_link-requires
name_link-requires c =
    record {
      there = c.requires.there (get_or c.args.names.now c.loop-at.at-index 0)
          (Mem-from_At (At-get_or c.args.names.now c.loop-at.at-index 0 c.loop-at-test.true));
    }
