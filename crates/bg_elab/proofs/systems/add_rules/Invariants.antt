use Rattle.std.proofs.Common.{◌≡◌, ◌-◌, ◌≤◌, length, drop}
use Rattle.bg_elab.specs.Blocks.{Listed}
use Rattle.bg_elab.specs.Calls.{listed_code}
use Rattle.bg_elab.specs.Choices.{choices}
use Rattle.bg_elab.specs.Systems.{with_rule}
use Rattle.bg_statements.specs.Calls.{kept}
use Rattle.bg_statements.specs.Defined.{Defined}
use Rattle.bg_statements.specs.InTurn.{in_turn}
use Rattle.bg_elab.proofs.systems.add_rules.Given as goal
use Rattle.bg_base.specs.Limits.{most_rules}

abbrev pub invariant-loop-reached : goal.invariant-loop-reached
invariant-loop-reached l =
    (l.number ≤ most_rules) × (l.number ≤ length l.rules.items) × ((d : Defined) (r : Listed) → l.uses ≡ kept d → l.listed ≡ listed_code r
    → in_turn (with_rule d r) (choices r.reference.lists) (l.initial.rules.items, l.fn.signature) ≡ in_turn (with_rule d r) (drop l.number (choices r.reference.lists)) (l.rules.items, l.reached))

abbrev pub decreases-loop-reached : goal.decreases-loop-reached
decreases-loop-reached l = most_rules - l.number
