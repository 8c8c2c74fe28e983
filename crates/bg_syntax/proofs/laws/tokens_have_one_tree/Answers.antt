use Rattle.bg_syntax.proofs.OneTree.{tokens_tell}
use Rattle.bg_syntax.proofs.laws.tokens_have_one_tree.Goals as goal

pub returns : goal.returns
returns c = λ tokens one other a b. tokens_tell tokens one other a b
