use Rattle.std.proofs.Common.{◌≡◌, List, drop}
use Rattle.bg_elab.specs.References.{Reference}
use Rattle.bg_elab.specs.Calls.{reference_codes}
use Rattle.bg_elab.specs.Systems.{with_predicates}
use Rattle.bg_statements.specs.Calls.{kept}
use Rattle.bg_statements.specs.Defined.{Defined}
use Rattle.bg_statements.specs.InTurn.{in_turn}
use Rattle.bg_elab.proofs.systems.add_all_predicates.Given as goal

abbrev pub invariant-loop-reference : goal.invariant-loop-reference
invariant-loop-reference l =
    (d : Defined) (rs : List Reference) → l.uses ≡ kept d → l.references ≡ reference_codes rs
    → in_turn (with_predicates d) rs (l.initial.preds.items, l.fn.signature) ≡ in_turn (with_predicates d) (drop l.reference-index rs) (l.preds.items, l.reached)
