use Rattle.std.proofs.Common.{◌≡◌}
use Rattle.std.specs.VecDeque.{deque_len}
use Rattle.bg_statements.specs.InTurn.{in_turn}
use Rattle.bg_statements.specs.RuleValues.{with_tested}
use Rattle.bg_statements.proofs.rule_values.add_tested.Given as goal

abbrev pub invariant-loop-condition : goal.invariant-loop-condition
invariant-loop-condition l = in_turn with_tested l.fn.conditions.items l.fn.tested.items ≡ in_turn with_tested l.waiting.items l.tested.items

abbrev pub decreases-loop-condition : goal.decreases-loop-condition
decreases-loop-condition l = deque_len l.waiting
