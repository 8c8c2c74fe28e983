use Rattle.std.proofs.Common.{◌≡◌, map}
use Rattle.bg_lists.specs.Lists.{Mem}
use Rattle.bg_base.specs.declared.names.Place.TheVariants.{Node}
use Rattle.bg_place.specs.Places.{numbers_in}
use Rattle.bg_index.specs.declared.entries.NodeEntry.{NodeEntry}
use Rattle.bg_index.proofs.children.filled.Given as goal

abbrev pub invariant-loop-row : goal.invariant-loop-row
invariant-loop-row l =
    (map (λ (entry : NodeEntry). entry.row) l.entries.items ≡ l.yielded)
    × ((entry : NodeEntry) → Mem entry l.entries.items → entry.children.items ≡ numbers_in (Node entry.row.id) l.incoming)
