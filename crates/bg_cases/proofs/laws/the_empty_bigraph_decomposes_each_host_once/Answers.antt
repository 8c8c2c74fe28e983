use Rattle.bg_base.specs.Elementary.{empty}
use Rattle.bg_cases.specs.Clauses.{some_node_there}
use Rattle.bg_cases.proofs.CaseRows.{nothing}
use Rattle.bg_cases.proofs.CasesOfNothing.{all_but_a_node, each_host, one_way}
use Rattle.bg_cases.proofs.NeededClauses.{others_hold}
use Rattle.bg_cases.proofs.laws.the_empty_bigraph_decomposes_each_host_once.Goals as goal

pub returns-clause-clauses : goal.returns-clause-clauses
unfolding empty
returns-clause-clauses c = others_hold some_node_there nothing all_but_a_node

pub returns-clause-some : goal.returns-clause-some
unfolding empty
returns-clause-some c = each_host

pub returns-clause-one : goal.returns-clause-one
unfolding empty
returns-clause-one c = one_way
