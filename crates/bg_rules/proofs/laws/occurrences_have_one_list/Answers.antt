use Rattle.bg_rules.proofs.Occurrences.{all_maps, are_occurrences, one_list}
use Rattle.bg_rules.proofs.laws.occurrences_have_one_list.Goals as goal

pub returns-clause-some : goal.returns-clause-some
returns-clause-some c = λ host pattern is ground. (all_maps host pattern is ground, are_occurrences host pattern is ground)

pub returns-clause-one : goal.returns-clause-one
returns-clause-one c = one_list
