use Rattle.bg_terms.proofs.OuterNames.{outer_plain}
use Rattle.bg_terms.proofs.laws.outer_names_of_values_are_plain.Goals as goal

pub returns : goal.returns
returns c = λ depth term before after big is. outer_plain depth term before after big is
