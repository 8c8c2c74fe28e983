use Rattle.std.proofs.Common.{◌≡◌}
use Rattle.bg_base.specs.Elementary.{counted}
use Rattle.bg_react.proofs.reaction.numbers_from.Given as goal

abbrev pub invariant-loop-step : goal.invariant-loop-step
invariant-loop-step l = l.numbers.items ≡ counted l.first l.step
