use Rattle.std.proofs.Common.{◌≡◌, ℕ, List, not, filter, take, get_or, refl, sym, subst, ◌∙◌, arith}
use Rattle.std.proofs.lemmas.List.{take_more}
use Rattle.bg_rules.specs.Instantiation.{is_among}
use Rattle.bg_index.specs.declared.entries.Slot.{Slot}
use Rattle.bg_index.proofs.KeyLaws.{left_ascends, removed_more, removed_none, take_past}
use Rattle.bg_index.proofs.commit_nodes.take_slots.Goals as goal

pub loop-node-init : goal.loop-node-init
loop-node-init c = record { kept = removed_none (λ (slot : Slot). slot.node) c.args.slots.now.items; count = omega arith; capacity = refl }

pub take_slot-requires : goal.take_slot-requires
take_slot-requires c = record {
  slots_ascend = left_ascends (λ (slot : Slot). slot.node) (take c.loop-node.node-index c.args.gone.now) c.args.slots.now.items c.loop-node.slots.items c.loop-node.invariant.kept c.requires.slots_ascend;
}

pub loop-node-preserved : goal.loop-node-preserved
loop-node-preserved c = record {
  kept = subst (λ (ns : List ℕ). c.take_slot.new.slots.items ≡ filter (λ (slot : Slot). not (is_among slot.node ns)) c.args.slots.now.items)
      (sym (take_more c.args.gone.now c.loop-node.node-index 0 c.loop-node-test.true))
      (removed_more (λ (slot : Slot). slot.node) (take c.loop-node.node-index c.args.gone.now) (get_or c.args.gone.now c.loop-node.node-index 0) c.args.slots.now.items c.loop-node.slots.items c.take_slot.new.slots.items
      c.loop-node.invariant.kept c.take_slot.ensures.kept);
  count = (let less = c.take_slot.ensures.count in let so_far = c.loop-node.invariant.count in omega arith);
  capacity = c.take_slot.ensures.capacity ∙ c.loop-node.invariant.capacity;
}

pub returns-clause-kept : goal.returns-clause-kept
returns-clause-kept c =
    subst (λ (ns : List ℕ). c.loop-node.slots.items ≡ filter (λ (slot : Slot). not (is_among slot.node ns)) c.args.slots.now.items)
    (take_past c.loop-node.node-index c.args.gone.now c.loop-node-test.false) c.loop-node.invariant.kept
