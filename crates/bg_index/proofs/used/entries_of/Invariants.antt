use Rattle.std.proofs.Common.{◌≡◌, ℕ, ◌+◌, take, map}
use Rattle.bg_lists.specs.Lists.{Mem}
use Rattle.bg_index.specs.declared.entries.EdgeEntry.{EdgeEntry}
use Rattle.bg_index.specs.Arrivals.{IsArrivedAt}
use Rattle.bg_index.specs.Indexed.{edges_of}
use Rattle.bg_index.proofs.used.entries_of.Given as goal

abbrev pub invariant-loop-edge : goal.invariant-loop-edge
invariant-loop-edge l =
    (edges_of l.made.items ≡ map (λ (edge : ℕ). l.next + edge) (take l.edge-index l.own))
    × ((entry : EdgeEntry) → Mem entry l.made.items → IsArrivedAt l.arrivals entry.edge entry)
