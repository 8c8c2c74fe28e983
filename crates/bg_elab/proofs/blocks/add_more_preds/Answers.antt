use Rattle.std.proofs.Common.{◌+◌, ◌∙◌, [], ap, sym, drop, rules}
use Rattle.bg_elab.specs.Blocks.{with_pred}
use Rattle.bg_elab.specs.Calls.{reference_codes}
use Rattle.bg_statements.specs.InTurn.{in_turn}
use Rattle.bg_statements.proofs.Turns.{turn_next}
use Rattle.bg_elab.proofs.Turns.{partly_stops}
use Rattle.bg_trees.specs.declared.models.SynMoreRefItem.{SynMoreRefItem}
use Rattle.bg_values.proofs.Partly.{one_more}
use Rattle.bg_values.specs.Outcome.{◌>>=◌}
use Rattle.bg_elab.proofs.blocks.add_more_preds.Goals as goal

pub loop-item-preserved : goal.loop-item-preserved
loop-item-preserved c = λ done starts.
    let items = c.args.items.now in
    let index = c.loop-item.item-index in
    let step = λ (item : SynMoreRefItem). with_pred c.args.text.now c.args.spaces.now item.part2 in
    one_more reference_codes [] c.loop-item.preds.items c.add_pred.new.preds.items (in_turn step items done) (in_turn step (drop index items))
    (step c.item-item.result) (in_turn step (drop (index + 1) items)) (c.loop-item.invariant done starts)
    (λ f. turn_next step items index c.item-item.result f c.loop-item-test.true
    ∙ ap (λ (item : SynMoreRefItem). step item f >>= in_turn step (drop (index + 1) items)) (sym c.item-item.is))
    (λ f stands. c.in_ok-add_pred.ensures f stands)

pub returns-in_err-add_pred : goal.returns-in_err-add_pred
returns-in_err-add_pred c = λ done starts.
    let items = c.args.items.now in
    let index = c.loop-item.item-index in
    let step = λ (item : SynMoreRefItem). with_pred c.args.text.now c.args.spaces.now item.part2 in
    let stopped = partly_stops reference_codes c.loop-item.preds.items c.in_err-add_pred.field-0.0 (in_turn step items done) (in_turn step (drop index items))
    (step c.item-item.result) (in_turn step (drop (index + 1) items)) (c.loop-item.invariant done starts)
    (λ f. turn_next step items index c.item-item.result f c.loop-item-test.true
    ∙ ap (λ (item : SynMoreRefItem). step item f >>= in_turn step (drop (index + 1) items)) (sym c.item-item.is))
    (λ f stands. c.in_err-add_pred.ensures f stands) in
    search (rules, stopped)
