use Rattle.bg_rewriting.proofs.Reacted.{numbers, count}
use Rattle.bg_rewriting.proofs.reactions_number_nodes.Goals as goal

pub returns-clause-numbers : goal.returns-clause-numbers
returns-clause-numbers c = numbers

pub returns-clause-count : goal.returns-clause-count
returns-clause-count c = count
