use Rattle.std.proofs.Common.{◌≡◌, take}
use Rattle.bg_lists.specs.Lists.{Mem}
use Rattle.bg_index.specs.declared.entries.EdgeEntry.{EdgeEntry}
use Rattle.bg_index.specs.Indexed.{edges_of, IsEdgeTied}
use Rattle.bg_index.proofs.making.edges_of.Given as goal

abbrev pub invariant-loop-edge : goal.invariant-loop-edge
invariant-loop-edge l =
    (edges_of l.made.items ≡ take l.edge-index l.edges) × ((entry : EdgeEntry) → Mem entry l.made.items → IsEdgeTied l.wiring entry)
