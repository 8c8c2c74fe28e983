use Rattle.std.proofs.Common.{◌≡◌, None, drop}
use Rattle.std.specs.Option.{option_copied}
use Rattle.bg_base.specs.declared.names.Name.{Name}
use Rattle.bg_base.specs.Faults.{outer_code, codes_from, first_fault, shifted}
use Rattle.bg_base.proofs.check.first_outer.Given as goal

abbrev pub invariant-loop-at : goal.invariant-loop-at
invariant-loop-at l =
    first_fault (codes_from (λ (name : Name). name) outer_code None l.names)
    ≡ shifted l.at (first_fault (codes_from (λ (name : Name). name) outer_code (option_copied l.last) (drop l.at l.names)))
