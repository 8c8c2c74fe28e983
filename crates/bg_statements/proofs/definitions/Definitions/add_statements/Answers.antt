use Rattle.std.proofs.Common.{◌≡◌, ◌+◌, ◌∙◌, ap, sym, drop, rules}
use Rattle.bg_statements.specs.Defined.{Defined}
use Rattle.bg_statements.specs.Statements.{with_statement, with_statements}
use Rattle.bg_statements.proofs.Codes.{Reached, reached_more, reached_stops}
use Rattle.bg_statements.proofs.Turns.{turn_next}
use Rattle.bg_trees.specs.declared.models.SynStmtsItem.{SynStmtsItem}
use Rattle.bg_values.specs.Outcome.{◌>>=◌}
use Rattle.bg_statements.proofs.definitions.Definitions.add_statements.Goals as goal

pub returns-in_err-add_statement : goal.returns-in_err-add_statement
returns-in_err-add_statement c = λ d here.
    let text = c.args.text.now in
    let items = c.args.items.now in
    let index = c.loop-item.item-index in
    let stopped = reached_stops c.in_err-add_statement.field-0.0 (with_statements text items d) c.loop-item.self (with_statements text (drop index items))
    (with_statement text c.item-item.result.part1) (with_statements text (drop (index + 1) items)) (c.loop-item.invariant d here)
    (λ e. turn_next (λ (item : SynStmtsItem). with_statement text item.part1) items index c.item-item.result e c.loop-item-test.true
    ∙ ap (λ (item : SynStmtsItem). with_statement text item.part1 e >>= with_statements text (drop (index + 1) items)) (sym c.item-item.is))
    (λ e keeps. c.in_err-add_statement.ensures e keeps) in
    search (rules, stopped)

pub loop-item-preserved : goal.loop-item-preserved
loop-item-preserved c = λ d here.
    let text = c.args.text.now in
    let items = c.args.items.now in
    let index = c.loop-item.item-index in
    reached_more (with_statements text items d) c.loop-item.self c.add_statement.new.self (with_statements text (drop index items))
    (with_statement text c.item-item.result.part1) (with_statements text (drop (index + 1) items)) (c.loop-item.invariant d here)
    (λ e. turn_next (λ (item : SynStmtsItem). with_statement text item.part1) items index c.item-item.result e c.loop-item-test.true
    ∙ ap (λ (item : SynStmtsItem). with_statement text item.part1 e >>= with_statements text (drop (index + 1) items)) (sym c.item-item.is))
    (λ e keeps. c.in_ok-add_statement.ensures e keeps)
