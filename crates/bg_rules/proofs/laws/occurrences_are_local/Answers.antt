use Rattle.bg_rules.proofs.Occurrences.{occurs_locally, locally_occurs}
use Rattle.bg_rules.proofs.laws.occurrences_are_local.Goals as goal

pub returns : goal.returns
returns c = λ host pattern nodes is ground. (locally_occurs host pattern is ground nodes, occurs_locally host pattern is ground nodes)
