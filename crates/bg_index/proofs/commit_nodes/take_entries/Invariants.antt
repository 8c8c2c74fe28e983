use Rattle.std.proofs.Common.{◌≡◌, ◌≤◌}
use Rattle.slab.specs.Slab.{slab_len}
use Rattle.bg_index.specs.Commits.{AreLeft}
use Rattle.bg_index.proofs.commit_nodes.take_entries.Given as goal

abbrev pub invariant-loop-node : goal.invariant-loop-node
invariant-loop-node l = record {
  left : AreLeft l.initial.nodes l.slots l.gone l.nodes;
  count : slab_len l.nodes ≤ slab_len l.initial.nodes;
  capacity : l.nodes.capacity ≡ l.initial.nodes.capacity;
}
