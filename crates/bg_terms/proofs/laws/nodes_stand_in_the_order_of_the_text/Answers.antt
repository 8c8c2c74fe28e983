use Rattle.bg_terms.proofs.Ordered.{in_order}
use Rattle.bg_terms.proofs.laws.nodes_stand_in_the_order_of_the_text.Goals as goal

pub returns : goal.returns
returns c = λ depth term before after big is. in_order depth term before after big is
