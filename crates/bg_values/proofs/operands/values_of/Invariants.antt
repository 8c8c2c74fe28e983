use Rattle.std.proofs.Common.{◌≡◌, ◌++◌, length, map, Ok}
use Rattle.bg_values.specs.Operands.{shown, outcomes}
use Rattle.bg_values.specs.Outcome.{◌>>=◌}
use Rattle.bg_values.proofs.operands.values_of.Given as goal

abbrev pub invariant-loop-operand : goal.invariant-loop-operand
invariant-loop-operand l =
    outcomes l.env (map shown l.operands) ≡ (outcomes l.env (map shown l.others) >>= λ vs. Ok (l.values.items ++ vs))

abbrev pub decreases-loop-operand : goal.decreases-loop-operand
decreases-loop-operand l = length l.others
