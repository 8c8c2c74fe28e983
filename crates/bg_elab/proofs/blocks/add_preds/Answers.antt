use Rattle.std.proofs.Common.{◌++◌, [], List, ap, rules}
use Rattle.bg_elab.specs.Blocks.{trees_of_refs, with_pred}
use Rattle.bg_elab.specs.Calls.{reference_codes}
use Rattle.bg_elab.specs.References.{Reference}
use Rattle.bg_elab.proofs.Turns.{coded_so, first_goes, first_stops}
use Rattle.bg_trees.specs.declared.models.SynMoreRefItem.{SynMoreRefItem}
use Rattle.bg_elab.proofs.blocks.add_preds.Goals as goal

pub returns-in_err-add_pred-in-Way1 : goal.returns-in_err-add_pred-in-Way1
returns-in_err-add_pred-in-Way1 c = λ done starts.
    let code = λ (read : List Reference). [] ++ reference_codes read in
    let step = with_pred c.args.text.now c.args.spaces.now in
    let stopped = first_stops code step (λ (item : SynMoreRefItem). item.part2) (trees_of_refs c.args.tree.now) c.in-Way1.first c.in-Way1.more.items
    (ap trees_of_refs c.in-Way1.is) done c.in_err-add_pred-in-Way1.field-0.0 (c.in_err-add_pred-in-Way1.ensures done starts) in
    search (rules, stopped)

pub returns-in_ok-add_pred-in-Way1 : goal.returns-in_ok-add_pred-in-Way1
returns-in_ok-add_pred-in-Way1 c = λ done starts.
    let code = λ (read : List Reference). [] ++ reference_codes read in
    let step = with_pred c.args.text.now c.args.spaces.now in
    let first = coded_so code (step c.in-Way1.first done) c.add_pred.new.preds.items (c.in_ok-add_pred-in-Way1.ensures done starts) in
    first_goes code step (λ (item : SynMoreRefItem). item.part2) (trees_of_refs c.args.tree.now) c.in-Way1.first c.in-Way1.more.items
    (ap trees_of_refs c.in-Way1.is) done c.add_more_preds.result c.add_more_preds.new.preds.items c.add_pred.new.preds.items c.as_slice.result.now
    c.as_slice.ensures.value first (c.add_more_preds.ensures first.found first.stands)
