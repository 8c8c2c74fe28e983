use Rattle.std.proofs.Common.{◌≡◌, ◌+◌, length}
use Rattle.bg_place.specs.Places.{climb}
use Rattle.bg_place.proofs.climb.depth_in.Given as goal

abbrev pub invariant-loop-place : goal.invariant-loop-place
invariant-loop-place l =
    (l.count + l.moves ≡ length l.rows)
    × (l.count + length (climb l.rows l.moves l.place) ≡ length (climb l.rows (length l.rows) l.fn.start))

abbrev pub decreases-loop-place : goal.decreases-loop-place
decreases-loop-place l = l.moves
