use Rattle.std.proofs.Common.{rules}
use Rattle.bg_statements.specs.Rules.{with_entry, with_entries}
use Rattle.bg_statements.proofs.Turns.{turn_taken, turn_stopped}
use Rattle.bg_trees.specs.declared.statements.SynMoreNumItem.{SynMoreNumItem}
use Rattle.bg_statements.proofs.rule_code.add_entries.Goals as goal

pub returns-in_err-add_entry : goal.returns-in_err-add_entry
returns-in_err-add_entry c =
    let refused = turn_stopped (λ (item : SynMoreNumItem). with_entry c.args.text.now item.part2) c.args.items.now c.loop-item.item-index _ c.loop-item.entries.items
    c.in_err-add_entry.field-0.0 (with_entries c.args.text.now c.args.items.now c.args.entries.now.items) c.loop-item.invariant c.loop-item-test.true c.in_err-add_entry.ensures in
    search (rules, refused)

pub loop-item-preserved : goal.loop-item-preserved
loop-item-preserved c =
    turn_taken (λ (item : SynMoreNumItem). with_entry c.args.text.now item.part2) c.args.items.now c.loop-item.item-index _ c.loop-item.entries.items c.add_entry.new.entries.items
    (with_entries c.args.text.now c.args.items.now c.args.entries.now.items) c.loop-item.invariant c.loop-item-test.true c.in_ok-add_entry.ensures
