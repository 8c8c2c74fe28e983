use Rattle.bg_base.specs.Elementary.{counted}
use Rattle.bg_react.proofs.reaction.numbers_from.Goals as goal

pub loop-step-init : goal.loop-step-init
unfolding counted
loop-step-init c = c.new-numbers.ensures.items
