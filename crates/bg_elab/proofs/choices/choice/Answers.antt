use Rattle.std.proofs.Common.{◌-◌, ◌/◌, length, subst, sym}
use Rattle.bg_elab.proofs.Digits.{Going, going_first, going_on, going_last, picked_all, picked_none, picked_nothing, some_there}
use Rattle.bg_elab.proofs.choices.choice.Goals as goal

-- before the first step nothing is picked
pub loop-at-init : goal.loop-at-init
loop-at-init c = going_first c.args.lists.now c.args.number c.new-values.result.items c.new-values.ensures.items

-- a step picks from the list before
pub loop-at-preserved : goal.loop-at-preserved
loop-at-preserved c =
    subst (λ long. Going c.args.lists.now c.args.number (c.loop-at.at - 1) c.push.new.self.items (c.loop-at.left / long)) (sym c.len.ensures)
    (going_on c.args.lists.now c.args.number c.loop-at.at c.loop-at.values.items c.loop-at.left c.index-lists-at.result c.in_ok-digit.field-0 c.push.new.self.items
    c.loop-at.invariant c.loop-at-test.true (some_there (length c.index-lists-at.result) c.is_empty.result c.is_empty.ensures.1 c.if-is_empty.false) c.index-lists-at.is c.in_ok-digit.ensures c.in_ok-push.ensures.items)

-- a number of which something is left has no choice
pub returns-then-left-gt0 : goal.returns-then-left-gt0
returns-then-left-gt0 c = picked_none (going_last c.loop-at.invariant c.loop-at-test.false) c.if-left-gt0.true

-- the digits of the others are their choice
pub returns : goal.returns
returns c = picked_all (going_last c.loop-at.invariant c.loop-at-test.false) c.if-left-gt0.false c.in_ok-values.ensures

-- of an empty list there is no choice
pub returns-then-is_empty : goal.returns-then-is_empty
returns-then-is_empty c =
    picked_nothing c.args.lists.now c.args.number c.loop-at.at c.loop-at.values.items c.loop-at.left c.index-lists-at.result c.loop-at.invariant c.loop-at-test.true
    c.index-lists-at.is (c.is_empty.ensures.0 c.if-is_empty.true)
