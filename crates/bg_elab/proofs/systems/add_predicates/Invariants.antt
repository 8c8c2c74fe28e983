use Rattle.std.proofs.Common.{◌≡◌, ◌-◌, ◌≤◌, length, drop}
use Rattle.bg_elab.specs.References.{Reference}
use Rattle.bg_elab.specs.Calls.{reference_code}
use Rattle.bg_elab.specs.Choices.{choices}
use Rattle.bg_elab.specs.Systems.{with_predicate}
use Rattle.bg_statements.specs.Calls.{kept}
use Rattle.bg_statements.specs.Defined.{Defined}
use Rattle.bg_statements.specs.InTurn.{in_turn}
use Rattle.bg_elab.proofs.systems.add_predicates.Given as goal
use Rattle.bg_base.specs.Limits.{most_rules}

abbrev pub invariant-loop-reached : goal.invariant-loop-reached
invariant-loop-reached l =
    (l.number ≤ most_rules) × (l.number ≤ length l.preds.items) × ((d : Defined) (r : Reference) → l.uses ≡ kept d → l.reference ≡ reference_code r
    → in_turn (with_predicate d r) (choices r.lists) (l.initial.preds.items, l.fn.signature) ≡ in_turn (with_predicate d r) (drop l.number (choices r.lists)) (l.preds.items, l.reached))

abbrev pub decreases-loop-reached : goal.decreases-loop-reached
decreases-loop-reached l = most_rules - l.number
