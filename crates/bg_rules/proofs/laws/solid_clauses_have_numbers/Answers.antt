use Rattle.bg_rules.proofs.SolidNumbers.{clauses_of, solid_from_clauses, least_from_clause, clause_from_least}
use Rattle.bg_rules.proofs.laws.solid_clauses_have_numbers.Goals as goal

pub returns-clause-all : goal.returns-clause-all
returns-clause-all c = λ big. (clauses_of big, solid_from_clauses big)

pub returns-clause-least : goal.returns-clause-least
returns-clause-least c = λ big number. (least_from_clause big number, clause_from_least big number)
