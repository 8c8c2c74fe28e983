use Rattle.bg_terms.proofs.Placed.{placed}
use Rattle.bg_terms.specs.Terms as terms
use Rattle.bg_terms.proofs.laws.closures_take_edge_numbers_in_the_order_of_the_text.Goals as goal

pub returns : goal.returns
returns c = λ depth term before after big is. λ count at word inside stands.
    placed (terms.closure at word inside) depth term before after big count is stands
