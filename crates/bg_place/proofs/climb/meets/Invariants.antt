use Rattle.std.proofs.Common.{◌≡◌, ◌==◌, length}
use Rattle.std.specs.List.{list_any}
use Rattle.bg_place.specs.Places.{climb}
use Rattle.bg_place.proofs.climb.meets.Given as goal

abbrev pub invariant-loop-place : goal.invariant-loop-place
invariant-loop-place l =
    list_any (λ node. node == l.wanted) (climb l.rows (length l.rows) l.fn.start)
    ≡ list_any (λ node. node == l.wanted) (climb l.rows l.moves l.place)

abbrev pub decreases-loop-place : goal.decreases-loop-place
decreases-loop-place l = l.moves
