use Rattle.std.proofs.Common.{◌≡◌, List, drop}
use Rattle.bg_statements.specs.Calls.{coded_setting, condition_codes}
use Rattle.bg_statements.specs.InTurn.{in_turn}
use Rattle.bg_statements.specs.Rules.{ConditionExpression}
use Rattle.bg_statements.specs.RuleValues.{Setting, with_value}
use Rattle.bg_statements.proofs.rule_values.Setting.add_values.Given as goal

abbrev pub invariant-loop-condition : goal.invariant-loop-condition
invariant-loop-condition l =
    (s : Setting) (cs : List ConditionExpression) → l.self ≡ coded_setting s → l.conditions ≡ condition_codes cs
    → in_turn (with_value s) cs (l.initial.found.items, l.initial.met) ≡ in_turn (with_value s) (drop l.condition-index cs) (l.found.items, l.met)
