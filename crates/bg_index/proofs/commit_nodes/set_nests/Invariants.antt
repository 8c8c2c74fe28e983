use Rattle.std.proofs.Common.{◌≡◌}
use Rattle.slab.specs.Slab.{slab_len}
use Rattle.bg_index.specs.Commits.{AreBeside, LeadOn, IsFilled, IsRegionFilled}
use Rattle.bg_index.proofs.commit_nodes.set_nests.Given as goal

abbrev pub invariant-loop-nest : goal.invariant-loop-nest
invariant-loop-nest l = record {
  nodes : LeadOn (IsFilled l.yielded) l.initial.nodes l.nodes l.slots;
  regions : AreBeside (IsRegionFilled l.yielded) l.initial.regions.items l.regions.items;
  count : slab_len l.nodes ≡ slab_len l.initial.nodes;
  capacity : l.nodes.capacity ≡ l.initial.nodes.capacity;
}
