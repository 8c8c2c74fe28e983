use Rattle.std.proofs.Common.{List, length}
use Rattle.bg_values.specs.Operands.{Operand, AreCodesOf, number, numbers}
use Rattle.bg_values.proofs.Gathering.{Evaluated}
use Rattle.bg_values.proofs.operands.numbers_of.Given as goal

abbrev pub invariant-loop-operand : goal.invariant-loop-operand
invariant-loop-operand l =
    (fs : List Operand) → AreCodesOf fs l.operands → Evaluated (number l.env) l.numbers.items (numbers l.env fs) l.others

abbrev pub decreases-loop-operand : goal.decreases-loop-operand
decreases-loop-operand l = length l.others
