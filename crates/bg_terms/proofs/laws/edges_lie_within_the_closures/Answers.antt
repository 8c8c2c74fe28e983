use Rattle.bg_terms.proofs.Closures.{within_closures}
use Rattle.bg_terms.proofs.laws.edges_lie_within_the_closures.Goals as goal

pub returns : goal.returns
returns c = λ depth term before after big is. within_closures depth term before after big is
