use Rattle.std.proofs.Common.{◌≡◌, take}
use Rattle.slab.specs.Slab.{slab_len}
use Rattle.bg_index.specs.Commits.{LeadOn, IsMoved}
use Rattle.bg_index.proofs.commit_nodes.move_nodes.Given as goal

abbrev pub invariant-loop-step : goal.invariant-loop-step
invariant-loop-step l = record {
  moved : LeadOn (IsMoved (take l.step-index l.moves)) l.initial.nodes l.nodes l.slots;
  count : slab_len l.nodes ≡ slab_len l.initial.nodes;
  capacity : l.nodes.capacity ≡ l.initial.nodes.capacity;
}
