use Rattle.std.proofs.Common.{◌≡◌, map, take}
use Rattle.bg_lists.specs.Lists.{Mem}
use Rattle.bg_index.specs.declared.plans.Nest.{Nest}
use Rattle.bg_index.specs.Arriving.{AreNestedIn}
use Rattle.bg_index.proofs.children.nests_at.Given as goal

abbrev pub invariant-loop-place : goal.invariant-loop-place
invariant-loop-place l =
    (map (λ (nest : Nest). nest.place) l.nests.items ≡ take l.place-index l.places)
    × ((nest : Nest) → Mem nest l.nests.items → AreNestedIn l.host.big l.images l.incoming nest.place nest.children.items)
