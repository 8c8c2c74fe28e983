use Rattle.bg_terms.proofs.Valid.{valid}
use Rattle.bg_terms.proofs.laws.values_are_valid.Goals as goal

pub returns : goal.returns
returns c = λ depth term before after big is. valid depth term before after big is
