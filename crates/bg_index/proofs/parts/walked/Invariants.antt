use Rattle.std.proofs.Common.{◌-◌}
use Rattle.bg_index.specs.Walks.{IsWalked}
use Rattle.bg_index.proofs.parts.walked.Given as goal

abbrev pub invariant-loop-at : goal.invariant-loop-at
invariant-loop-at l = IsWalked l.host.big l.images l.image l.at l.numbers.items

abbrev pub decreases-loop-at : goal.decreases-loop-at
decreases-loop-at l = l.host.next_node - l.at
