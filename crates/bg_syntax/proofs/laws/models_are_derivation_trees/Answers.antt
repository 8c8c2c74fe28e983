use Rattle.bg_syntax.proofs.OneTree.{tree_by_grammar, tree_steps}
use Rattle.bg_syntax.proofs.laws.models_are_derivation_trees.Goals as goal

pub returns-clause-by_grammar : goal.returns-clause-by_grammar
returns-clause-by_grammar c = λ model. tree_by_grammar model

pub returns-clause-same_steps : goal.returns-clause-same_steps
returns-clause-same_steps c = λ model depth. tree_steps model depth
