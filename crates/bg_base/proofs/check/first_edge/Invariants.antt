use Rattle.std.proofs.Common.{◌≡◌, ℕ, None, drop}
use Rattle.bg_base.specs.Faults.{edge_code, codes_from, first_fault, shifted}
use Rattle.bg_base.proofs.check.first_edge.Given as goal

abbrev pub invariant-loop-at : goal.invariant-loop-at
invariant-loop-at l =
    first_fault (codes_from (λ (edge : ℕ). edge) edge_code None l.edges)
    ≡ shifted l.at (first_fault (codes_from (λ (edge : ℕ). edge) edge_code l.last (drop l.at l.edges)))
