use Rattle.std.proofs.Common.{arith, ◌∙◌}
use Rattle.bg_lists.proofs.Places.{Mem-from_At, At-get_or}
use Rattle.bg_rules.proofs.Upwards.{is_among-member}
use Rattle.bg_index.proofs.commit_nodes.take_entries.Goals as goal

pub loop-node-preserved : goal.loop-node-preserved
loop-node-preserved c = record {
  left = c.take_node.ensures.left c.args.nodes.now c.args.gone.now c.requires.held
      (is_among-member c.args.gone.now (Mem-from_At (At-get_or c.args.gone.now c.loop-node.node-index 0 c.loop-node-test.true))) c.loop-node.invariant.left;
  count = (let less = c.take_node.ensures.count in let so_far = c.loop-node.invariant.count in omega arith);
  capacity = c.take_node.ensures.capacity ∙ c.loop-node.invariant.capacity;
}
