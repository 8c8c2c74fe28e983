use Rattle.std.proofs.Common.{◌≡◌, ◌+◌, length, vec_len, vec_capacity}
use Rattle.slab.specs.Slab.{slab_len}
use Rattle.bg_index.specs.Commits.{ArePushed}
use Rattle.bg_index.proofs.commit_nodes.push_entries.Given as goal

abbrev pub invariant-loop-entry : goal.invariant-loop-entry
invariant-loop-entry l = record {
  pushed : ArePushed l.initial.nodes l.initial.slots.items l.yielded l.nodes l.slots.items;
  count : slab_len l.nodes ≡ slab_len l.initial.nodes + length l.yielded;
  capacity : l.nodes.capacity ≡ l.initial.nodes.capacity;
  slots_count : vec_len l.slots ≡ vec_len l.initial.slots + length l.yielded;
  slots_capacity : vec_capacity l.slots ≡ vec_capacity l.initial.slots;
}
