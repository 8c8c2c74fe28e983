use Rattle.bg_terms.proofs.Limits.{value_limited}
use Rattle.bg_terms.proofs.laws.values_are_within_the_limits.Goals as goal

pub returns-clause-nodes : goal.returns-clause-nodes
returns-clause-nodes c = λ depth term before after big is. (value_limited depth term before after big is).nodes_few

pub returns-clause-edges : goal.returns-clause-edges
returns-clause-edges c = λ depth term before after big is. (value_limited depth term before after big is).edges_few

pub returns-clause-places : goal.returns-clause-places
returns-clause-places c = λ depth term before after big is.
    let so = value_limited depth term before after big is in (so.regions_few, so.sites_few)
