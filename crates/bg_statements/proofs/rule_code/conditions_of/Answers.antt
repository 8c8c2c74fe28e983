use Rattle.std.proofs.Common.{◌∙◌, [], ap, sym}
use Rattle.bg_statements.specs.Calls.{condition_codes}
use Rattle.bg_statements.specs.Rules.{with_condition, with_conditions}
use Rattle.bg_statements.proofs.Codes.{read_as}
use Rattle.bg_values.specs.Outcome.{◌>>=◌}
use Rattle.bg_statements.proofs.rule_code.conditions_of.Goals as goal

pub returns : goal.returns
returns c =
    let visible = c.args.visible.now in
    let tree = c.args.tree.now in
    let first = read_as condition_codes (with_condition visible tree.part2 []) c.add_condition.new.conditions.items
    (c.in_ok-add_condition.ensures [] c.new-conditions.ensures.items) in
    let all = read_as condition_codes (with_conditions visible c.as_slice.result.now first.found) c.add_conditions.new.conditions.items
    (c.in_ok-add_conditions.ensures first.found first.coded) in (
      all.found,
      ap (λ r. r >>= with_conditions visible tree.part3.items) first.is ∙ ap (λ items. with_conditions visible items first.found) (sym c.as_slice.ensures.value) ∙ all.is,
      c.in_ok-rows.ensures.same ∙ all.coded,
    )
