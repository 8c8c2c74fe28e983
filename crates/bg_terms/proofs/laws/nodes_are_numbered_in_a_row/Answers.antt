use Rattle.bg_terms.proofs.Numbered.{numbered}
use Rattle.bg_terms.proofs.laws.nodes_are_numbered_in_a_row.Goals as goal

pub returns : goal.returns
returns c = λ depth term before after big is. numbered depth term before after big is
