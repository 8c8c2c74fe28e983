use Rattle.bg_base.specs.Elementary.{counted}
use Rattle.bg_machine.proofs.ending.numbers_below.Goals as goal

pub loop-number-init : goal.loop-number-init
unfolding counted
loop-number-init c = c.new-numbers.ensures.items
