use Rattle.bg_elab.proofs.Digits.{Going}
use Rattle.bg_elab.proofs.choices.choice.Given as goal

abbrev pub invariant-loop-at : goal.invariant-loop-at
invariant-loop-at l = Going l.lists l.number l.at l.values.items l.left

abbrev pub decreases-loop-at : goal.decreases-loop-at
decreases-loop-at l = l.at
