use Rattle.std.proofs.Common.{◌≡◌, ◌+◌, ◌∙◌, ap, sym, drop, rules}
use Rattle.bg_statements.specs.Defined.{Defined}
use Rattle.bg_statements.specs.Statements.{with_parameter, with_parameters}
use Rattle.bg_statements.proofs.Codes.{Reached, reached_more, reached_stops}
use Rattle.bg_statements.proofs.Turns.{turn_next}
use Rattle.bg_trees.specs.declared.models.SynParamsItem.{SynParamsItem}
use Rattle.bg_values.specs.Outcome.{◌>>=◌}
use Rattle.bg_statements.proofs.definitions.Definitions.add_parameters.Goals as goal

pub returns-in_err-add_parameter : goal.returns-in_err-add_parameter
returns-in_err-add_parameter c = λ d here.
    let text = c.args.text.now in
    let items = c.args.items.now in
    let index = c.loop-item.item-index in
    let stopped = reached_stops c.in_err-add_parameter.field-0.0 (with_parameters text items d) c.loop-item.self (with_parameters text (drop index items))
    (with_parameter text c.item-item.result.part1) (with_parameters text (drop (index + 1) items)) (c.loop-item.invariant d here)
    (λ e. turn_next (λ (item : SynParamsItem). with_parameter text item.part1) items index c.item-item.result e c.loop-item-test.true
    ∙ ap (λ (item : SynParamsItem). with_parameter text item.part1 e >>= with_parameters text (drop (index + 1) items)) (sym c.item-item.is))
    (λ e keeps. c.in_err-add_parameter.ensures e keeps) in
    search (rules, stopped)

pub loop-item-preserved : goal.loop-item-preserved
loop-item-preserved c = λ d here.
    let text = c.args.text.now in
    let items = c.args.items.now in
    let index = c.loop-item.item-index in
    reached_more (with_parameters text items d) c.loop-item.self c.add_parameter.new.self (with_parameters text (drop index items))
    (with_parameter text c.item-item.result.part1) (with_parameters text (drop (index + 1) items)) (c.loop-item.invariant d here)
    (λ e. turn_next (λ (item : SynParamsItem). with_parameter text item.part1) items index c.item-item.result e c.loop-item-test.true
    ∙ ap (λ (item : SynParamsItem). with_parameter text item.part1 e >>= with_parameters text (drop (index + 1) items)) (sym c.item-item.is))
    (λ e keeps. c.in_ok-add_parameter.ensures e keeps)
