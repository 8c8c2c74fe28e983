use Rattle.std.proofs.Common.{List, drop}
use Rattle.bg_values.specs.Operands.{Operand, AreCodesOf, operands_read, trees_of}
use Rattle.bg_values.proofs.Gathering.{Gathered}
use Rattle.bg_values.proofs.operands.add_operands.Given as goal

abbrev pub invariant-loop-item : goal.invariant-loop-item
invariant-loop-item l =
    (done : List Operand) → AreCodesOf done l.initial.operands.items
    → Gathered done l.operands.items (operands_read l.scope (trees_of l.items)) (operands_read l.scope (trees_of (drop l.item-index l.items)))
