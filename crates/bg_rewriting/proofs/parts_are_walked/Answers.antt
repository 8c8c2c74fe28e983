use Rattle.bg_rewriting.proofs.Walks.{top_below, child_below, walked}
use Rattle.bg_rewriting.proofs.parts_are_walked.Goals as goal

pub returns-clause-tops : goal.returns-clause-tops
returns-clause-tops c = λ host pattern nodes is ground local node child k m none e. top_below is ground local k m none e

pub returns-clause-children : goal.returns-clause-children
returns-clause-children c = λ host pattern nodes is ground local node upper child low m e. child_below is ground local low m e

pub returns-clause-all : goal.returns-clause-all
returns-clause-all c = λ host pattern nodes is ground local node numbers tops closed row low. walked is ground local node numbers tops closed row low
