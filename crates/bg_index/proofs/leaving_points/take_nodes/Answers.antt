use Rattle.std.proofs.Common.{◌≡◌, ℕ, List, take, get_or, refl, sym, subst, ◌∙◌}
use Rattle.std.proofs.lemmas.List.{take_more}
use Rattle.bg_index.specs.Plans.{points_left}
use Rattle.bg_index.proofs.KeyLaws.{take_past}
use Rattle.bg_index.proofs.LeavingLaws.{left_ascend, left_more, left_none}
use Rattle.bg_index.proofs.leaving_points.take_nodes.Goals as goal

pub loop-node-init : goal.loop-node-init
loop-node-init c = record { kept = left_none c.args.points.now.items; capacity = refl }

pub take_node-requires : goal.take_node-requires
take_node-requires c = record {
  ascend = left_ascend (take c.loop-node.node-index c.args.gone.now) c.args.points.now.items c.loop-node.points.items c.loop-node.invariant.kept c.requires.ascend;
}

pub loop-node-preserved : goal.loop-node-preserved
loop-node-preserved c = record {
  kept = subst (λ (ns : List ℕ). c.take_node.new.points.items ≡ points_left ns c.args.points.now.items)
      (sym (take_more c.args.gone.now c.loop-node.node-index 0 c.loop-node-test.true))
      (left_more (take c.loop-node.node-index c.args.gone.now) (get_or c.args.gone.now c.loop-node.node-index 0) c.args.points.now.items c.loop-node.points.items c.take_node.new.points.items
      c.loop-node.invariant.kept c.take_node.ensures.kept);
  capacity = c.take_node.ensures.capacity ∙ c.loop-node.invariant.capacity;
}

pub returns-clause-kept : goal.returns-clause-kept
returns-clause-kept c =
    subst (λ (ns : List ℕ). c.loop-node.points.items ≡ points_left ns c.args.points.now.items)
    (take_past c.loop-node.node-index c.args.gone.now c.loop-node-test.false) c.loop-node.invariant.kept
