use Rattle.std.proofs.Common.{◌≡◌}
use Rattle.bg_base.specs.Elementary.{counted}
use Rattle.bg_machine.proofs.ending.numbers_below.Given as goal

abbrev pub invariant-loop-number : goal.invariant-loop-number
invariant-loop-number l = l.numbers.items ≡ counted 0 l.number
