use Rattle.std.proofs.Common.{◌≡◌, ◌≤◌, not, filter, take, vec_len, vec_capacity}
use Rattle.bg_rules.specs.Instantiation.{is_among}
use Rattle.bg_index.specs.declared.entries.Slot.{Slot}
use Rattle.bg_index.proofs.commit_nodes.take_slots.Given as goal

abbrev pub invariant-loop-node : goal.invariant-loop-node
invariant-loop-node l = record {
  kept : l.slots.items ≡ filter (λ (slot : Slot). not (is_among slot.node (take l.node-index l.gone))) l.initial.slots.items;
  count : vec_len l.slots ≤ vec_len l.initial.slots;
  capacity : vec_capacity l.slots ≡ vec_capacity l.initial.slots;
}
