use Rattle.std.proofs.Common.{◌+◌, ◌∙◌, drop, ap, rules}
use Rattle.bg_statements.specs.Calls.{condition_code}
use Rattle.bg_statements.specs.InTurn.{in_turn}
use Rattle.bg_statements.specs.RuleValues.{with_value}
use Rattle.bg_statements.proofs.Turns.{coded_at, stops_there}
use Rattle.bg_values.specs.Outcome.{◌>>=◌}
use Rattle.bg_statements.proofs.rule_values.Setting.add_values.Goals as goal

pub returns-in_err-add_value : goal.returns-in_err-add_value
returns-in_err-add_value c = λ s cs here codes.
    let index = c.loop-condition.condition-index in
    let at = coded_at condition_code cs c.args.conditions.now index c.condition-item.result codes c.loop-condition-test.true in
    let opened = c.loop-condition.invariant s cs here codes
    ∙ ap (λ xs. in_turn (with_value s) xs (c.loop-condition.found.items, c.loop-condition.met)) at.opens in
    let stopped = stops_there c.in_err-add_value.field-0.0 (with_value s at.item (c.loop-condition.found.items, c.loop-condition.met)) _
    (in_turn (with_value s) (drop (index + 1) cs)) opened (c.in_err-add_value.ensures s at.item here (c.condition-item.is ∙ at.is)) in
    search (rules, stopped)

pub loop-condition-preserved : goal.loop-condition-preserved
loop-condition-preserved c = λ s cs here codes.
    let index = c.loop-condition.condition-index in
    let at = coded_at condition_code cs c.args.conditions.now index c.condition-item.result codes c.loop-condition-test.true in
    c.loop-condition.invariant s cs here codes
    ∙ ap (λ xs. in_turn (with_value s) xs (c.loop-condition.found.items, c.loop-condition.met)) at.opens
    ∙ ap (λ r. r >>= in_turn (with_value s) (drop (index + 1) cs)) (c.in_ok-add_value.ensures s at.item here (c.condition-item.is ∙ at.is))
