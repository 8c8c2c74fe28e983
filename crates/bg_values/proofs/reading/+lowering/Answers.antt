use Rattle.bg_values.specs.Machine.{code_of}
use Rattle.bg_values.specs.Reading as definition
use Rattle.bg_values.proofs.Partly.{one_more, along_from}
use Rattle.bg_values.proofs.reading.+lowering.Goals as goal

pub lower_t_items-loop-item-preserved : goal.lower_t_items-loop-item-preserved
lower_t_items-loop-item-preserved t c = λ base f starts.
    one_more code_of base c.loop-item.steps.items c.lower_t_item.new.steps.items _ _
    (definition.t1_item_read c.item-item.result c.args.scope.now c.args.first) _
    (c.loop-item.invariant base f starts)
    (along_from definition.t1_item_read c.args.items.now c.loop-item.item-index c.item-item.result c.loop-item-test.true c.item-item.is c.args.scope.now c.args.first)
    (λ g stands. c.in_ok-lower_t_item.ensures base g stands)

pub lower_x_items-loop-item-preserved : goal.lower_x_items-loop-item-preserved
lower_x_items-loop-item-preserved t c = λ base f starts.
    one_more code_of base c.loop-item.steps.items c.lower_x_item.new.steps.items _ _
    (definition.x1_item_read c.item-item.result c.args.scope.now c.args.first) _
    (c.loop-item.invariant base f starts)
    (along_from definition.x1_item_read c.args.items.now c.loop-item.item-index c.item-item.result c.loop-item-test.true c.item-item.is c.args.scope.now c.args.first)
    (λ g stands. c.in_ok-lower_x_item.ensures base g stands)
