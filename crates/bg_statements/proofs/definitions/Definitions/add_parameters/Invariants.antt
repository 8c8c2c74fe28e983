use Rattle.std.proofs.Common.{◌≡◌, drop}
use Rattle.bg_statements.specs.Calls.{kept}
use Rattle.bg_statements.specs.Defined.{Defined}
use Rattle.bg_statements.specs.Statements.{with_parameters}
use Rattle.bg_statements.proofs.Codes.{Reached}
use Rattle.bg_statements.proofs.definitions.Definitions.add_parameters.Given as goal

abbrev pub invariant-loop-item : goal.invariant-loop-item
invariant-loop-item l =
    (d : Defined) → l.initial.self ≡ kept d → Reached (with_parameters l.text l.items d) l.self (with_parameters l.text (drop l.item-index l.items))
