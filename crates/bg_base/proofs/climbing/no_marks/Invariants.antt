use Rattle.std.proofs.Common.{◌≡◌, ℕ, Some, slice_get}
use Rattle.bg_base.proofs.climbing.no_marks.Given as goal

abbrev pub invariant-loop : goal.invariant-loop
invariant-loop g l = (k : ℕ) (mark : g.row.V.Denot) → slice_get l.marks.items k ≡ Some (Some mark) → ⊥
