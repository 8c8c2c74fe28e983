use Rattle.std.proofs.Common.{rules}
use Rattle.bg_statements.specs.Statements.{with_formal, with_formals}
use Rattle.bg_statements.proofs.Turns.{turn_taken, turn_stopped}
use Rattle.bg_trees.specs.declared.names.SynMoreLowItem.{SynMoreLowItem}
use Rattle.bg_statements.proofs.names.add_formals.Goals as goal

pub returns-in_err-add_formal : goal.returns-in_err-add_formal
returns-in_err-add_formal c =
    let refused = turn_stopped (λ (item : SynMoreLowItem). with_formal c.args.text.now item.part2) c.args.items.now c.loop-item.item-index _ c.loop-item.formals
    c.in_err-add_formal.field-0.0 (with_formals c.args.text.now c.args.items.now c.args.formals.now) c.loop-item.invariant c.loop-item-test.true c.in_err-add_formal.ensures in
    search (rules, refused)

pub loop-item-preserved : goal.loop-item-preserved
loop-item-preserved c =
    turn_taken (λ (item : SynMoreLowItem). with_formal c.args.text.now item.part2) c.args.items.now c.loop-item.item-index _ c.loop-item.formals c.add_formal.new.formals
    (with_formals c.args.text.now c.args.items.now c.args.formals.now) c.loop-item.invariant c.loop-item-test.true c.in_ok-add_formal.ensures
