use Rattle.std.proofs.Common.{get_or}
use Rattle.bg_lists.proofs.Places.{At-get_or, Mem-from_At}
use Rattle.bg_index.proofs.idle.edges_on.Goals as goal

pub row-requires : goal.row-requires
row-requires c =
    record {
      there = c.requires.there (get_or c.args.nodes.now c.loop-node.node-index 0)
          (Mem-from_At (At-get_or c.args.nodes.now c.loop-node.node-index 0 c.loop-node-test.true));
    }
