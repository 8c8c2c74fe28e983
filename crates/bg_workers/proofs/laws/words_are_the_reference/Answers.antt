use Rattle.bg_workers.proofs.Reference.{first_words_of_zero, sum_wraps}
use Rattle.bg_workers.proofs.laws.words_are_the_reference.Goals as goal

pub returns-clause-words : goal.returns-clause-words
returns-clause-words c = first_words_of_zero

pub returns-clause-wraps : goal.returns-clause-wraps
returns-clause-wraps c = sum_wraps
