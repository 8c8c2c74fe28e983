use Rattle.std.proofs.Common.{◌≡◌, [], List, drop}
use Rattle.bg_statements.specs.Calls.{condition_codes}
use Rattle.bg_statements.specs.Rules.{ConditionExpression, with_conditions}
use Rattle.bg_values.proofs.Partly.{Partly}
use Rattle.bg_statements.proofs.rule_code.add_conditions.Given as goal

abbrev pub invariant-loop-item : goal.invariant-loop-item
invariant-loop-item l =
    (done : List ConditionExpression) → l.initial.conditions.items ≡ condition_codes done
    → Partly condition_codes [] l.conditions.items (with_conditions l.visible l.items done) (with_conditions l.visible (drop l.item-index l.items))
