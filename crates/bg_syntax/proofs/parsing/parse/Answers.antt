use Rattle.bg_syntax.proofs.ModelFaults.{model_fault, fault_more, tree_of, only_tree_of}
use Rattle.bg_syntax.proofs.parsing.parse.Goals as goal

pub returns-in_err-model-clause-fault : goal.returns-in_err-model-clause-fault
returns-in_err-model-clause-fault c = model_fault _ c.from_residual.ensures.1 c.in_err-model.ensures

pub returns-then-at-tokens-clause-fault : goal.returns-then-at-tokens-clause-fault
returns-then-at-tokens-clause-fault c = fault_more _ _ _ c.in_ok-model.ensures c.if-at-tokens.true

pub returns-clause-tree : goal.returns-clause-tree
returns-clause-tree c = tree_of _ _ _ c.in_ok-model.ensures c.if-at-tokens.false

pub returns-clause-once : goal.returns-clause-once
returns-clause-once c = only_tree_of _ _ _ c.in_ok-model.ensures c.if-at-tokens.false
