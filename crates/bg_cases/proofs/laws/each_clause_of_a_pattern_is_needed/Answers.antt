use Rattle.bg_cases.proofs.NeededClauses.{each_clause, all_clauses, needed}
use Rattle.bg_cases.proofs.laws.each_clause_of_a_pattern_is_needed.Goals as goal

pub returns-clause-clauses : goal.returns-clause-clauses
returns-clause-clauses c = λ big. (λ is. (is.valid, each_clause big is), λ has. all_clauses big has.0 has.1)

pub returns-clause-needed : goal.returns-clause-needed
returns-clause-needed c = needed
