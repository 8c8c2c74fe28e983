use Rattle.std.proofs.Common.{◌≡◌, None, drop}
use Rattle.std.specs.Option.{option_copied}
use Rattle.bg_base.specs.declared.big.InnerRow.{InnerRow}
use Rattle.bg_base.specs.Faults.{inner_code, codes_from, first_fault, shifted}
use Rattle.bg_base.proofs.check.first_inner.Given as goal

abbrev pub invariant-loop-at : goal.invariant-loop-at
invariant-loop-at l =
    first_fault (codes_from (λ (row : InnerRow). row.name) (inner_code l.big) None l.rows)
    ≡ shifted l.at (first_fault (codes_from (λ (row : InnerRow). row.name) (inner_code l.big) (option_copied l.last) (drop l.at l.rows)))
