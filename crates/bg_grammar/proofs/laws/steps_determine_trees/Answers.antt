use Rattle.bg_grammar.proofs.Trees.{one_tree}
use Rattle.bg_grammar.proofs.laws.steps_determine_trees.Goals as goal

pub returns : goal.returns
returns c = λ g s depth one other a b same. one_tree g s depth one other a b same
