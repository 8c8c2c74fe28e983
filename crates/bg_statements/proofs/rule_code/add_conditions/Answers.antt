use Rattle.std.proofs.Common.{◌+◌, ◌∙◌, [], ap, sym, drop}
use Rattle.bg_statements.specs.Calls.{condition_codes}
use Rattle.bg_statements.specs.Rules.{with_condition, with_conditions}
use Rattle.bg_statements.proofs.Turns.{turn_next}
use Rattle.bg_trees.specs.declared.statements.SynTestsItem.{SynTestsItem}
use Rattle.bg_values.proofs.Partly.{one_more}
use Rattle.bg_values.specs.Outcome.{◌>>=◌}
use Rattle.bg_statements.proofs.rule_code.add_conditions.Goals as goal

pub loop-item-preserved : goal.loop-item-preserved
loop-item-preserved c = λ done starts.
    let visible = c.args.visible.now in
    let items = c.args.items.now in
    let index = c.loop-item.item-index in
    one_more condition_codes [] c.loop-item.conditions.items c.add_condition.new.conditions.items (with_conditions visible items done) (with_conditions visible (drop index items))
    (with_condition visible c.item-item.result.part2) (with_conditions visible (drop (index + 1) items)) (c.loop-item.invariant done starts)
    (λ f. turn_next (λ (item : SynTestsItem). with_condition visible item.part2) items index c.item-item.result f c.loop-item-test.true
    ∙ ap (λ (item : SynTestsItem). with_condition visible item.part2 f >>= with_conditions visible (drop (index + 1) items)) (sym c.item-item.is))
    (λ f stands. c.in_ok-add_condition.ensures f stands)
