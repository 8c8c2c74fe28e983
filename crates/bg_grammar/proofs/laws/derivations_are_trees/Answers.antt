use Rattle.bg_grammar.proofs.Trees.{tree_of_derivation, derivation_in_turn, tree_derives}
use Rattle.bg_grammar.proofs.laws.derivations_are_trees.Goals as goal

pub returns-clause-one_tree : goal.returns-clause-one_tree
returns-clause-one_tree c = λ g s kinds steps d. tree_of_derivation g s kinds steps d

pub returns-clause-in_turn : goal.returns-clause-in_turn
returns-clause-in_turn c = λ g s kinds steps d. derivation_in_turn d.derives

pub returns-clause-each_tree : goal.returns-clause-each_tree
returns-clause-each_tree c = λ g s tree a turn. tree_derives g s tree a turn
