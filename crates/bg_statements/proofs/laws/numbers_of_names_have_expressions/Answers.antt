use Rattle.bg_statements.proofs.UsesKnown.{bigraph_known, rule_known, bigraph_unknown, rule_unknown}
use Rattle.bg_statements.proofs.laws.numbers_of_names_have_expressions.Goals as goal

pub returns-clause-bigraph : goal.returns-clause-bigraph
returns-clause-bigraph c = bigraph_known

pub returns-clause-rule : goal.returns-clause-rule
returns-clause-rule c = rule_known

pub returns-clause-no_bigraph : goal.returns-clause-no_bigraph
returns-clause-no_bigraph c = bigraph_unknown

pub returns-clause-no_rule : goal.returns-clause-no_rule
returns-clause-no_rule c = rule_unknown
