use Rattle.std.proofs.Common.{rules, ◌++◌, [], ap, map}
use Rattle.bg_values.specs.Operands.{AreCodesOf, shown, trees_of}
use Rattle.bg_values.proofs.Gathering.{all_read, first_stops, others_stop}
use Rattle.bg_values.proofs.operands.operands_of.Goals as goal

pub returns-in_err-add_operand : goal.returns-in_err-add_operand
returns-in_err-add_operand c =
    let none : AreCodesOf [] c.new-operands.result.items = ap (map shown) c.new-operands.ensures.items in
    let stopped = first_stops c.args.scope.now c.args.first.now (trees_of c.args.more.now) c.in_err-add_operand.field-0.0 (c.in_err-add_operand.ensures [] none) in
    search (rules, stopped)

pub returns-in_err-add_operands : goal.returns-in_err-add_operands
returns-in_err-add_operands c =
    let none : AreCodesOf [] c.new-operands.result.items = ap (map shown) c.new-operands.ensures.items in
    let first = c.in_ok-add_operand.ensures [] none in
    let stopped = others_stop c.args.scope.now c.args.first.now (trees_of c.args.more.now) first.0 c.in_err-add_operands.field-0.0 first.1
    (c.in_err-add_operands.ensures first.0 first.2) in
    search (rules, stopped)

pub returns : goal.returns
returns c =
    let none : AreCodesOf [] c.new-operands.result.items = ap (map shown) c.new-operands.ensures.items in
    let first = c.in_ok-add_operand.ensures [] none in
    let others = c.in_ok-add_operands.ensures first.0 first.2 in
    (first.0 ++ others.0, all_read c.args.scope.now c.args.first.now (trees_of c.args.more.now) first.0 others.0 first.1 others.1, others.2)
