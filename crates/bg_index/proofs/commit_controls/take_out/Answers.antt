use Rattle.std.proofs.Common.{ℕ, List, take, sym, subst}
use Rattle.std.proofs.lemmas.List.{take_more}
use Rattle.bg_lists.proofs.Places.{Mem-from_At, At-get_or}
use Rattle.bg_rules.proofs.Upwards.{is_among-member}
use Rattle.bg_index.specs.Commits.{AreFrom, IsLessened, control_key}
use Rattle.bg_index.proofs.CommitControlLaws.{less_start, less_end, now_ascends, nodes_up}
use Rattle.bg_index.proofs.KeyLaws.{take_past}
use Rattle.bg_index.proofs.commit_controls.take_out.Goals as goal

pub loop-node-init : goal.loop-node-init
loop-node-init c = less_start c.args.gone.now c.args.controls.now.items

pub take_out_node-requires : goal.take_out_node-requires
take_out_node-requires c =
    let done = take c.loop-node.node-index c.args.gone.now in
    record {
      held = c.requires.held;
      ascending = now_ascends c.args.nodes.now c.args.slots.now c.requires.held c.args.controls.now.items c.loop-node.controls.items c.args.gone.now done c.requires.sorted c.loop-node.invariant;
      nodes_ascend = nodes_up c.args.nodes.now c.args.slots.now c.requires.held c.args.controls.now.items c.loop-node.controls.items c.args.gone.now done c.requires.sorted c.loop-node.invariant;
      gone_ascends = c.requires.ascending;
      among = is_among-member c.args.gone.now (Mem-from_At (At-get_or c.args.gone.now c.loop-node.node-index 0 c.loop-node-test.true));
    }

pub loop-node-preserved : goal.loop-node-preserved
loop-node-preserved c =
    let done = take c.loop-node.node-index c.args.gone.now in
    subst (λ (xs : List ℕ). AreFrom control_key (IsLessened c.args.gone.now xs) c.args.controls.now.items c.take_out_node.new.controls.items)
    (sym (take_more c.args.gone.now c.loop-node.node-index 0 c.loop-node-test.true))
    (c.take_out_node.ensures c.args.controls.now.items done c.requires.sorted c.loop-node.invariant)

pub returns : goal.returns
returns c =
    less_end c.args.gone.now (take c.loop-node.node-index c.args.gone.now) c.args.controls.now.items c.loop-node.controls.items
    (take_past c.loop-node.node-index c.args.gone.now c.loop-node-test.false) c.loop-node.invariant
