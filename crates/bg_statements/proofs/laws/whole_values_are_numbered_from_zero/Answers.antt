use Rattle.bg_statements.proofs.WholeValues.{whole_value_is}
use Rattle.bg_statements.proofs.laws.whole_values_are_numbered_from_zero.Goals as goal

pub returns : goal.returns
returns c = λ s e met big after is. whole_value_is s e met (big, after) is
