use Rattle.bg_rewriting.proofs.Reacted.{children_stay, roots_stay, points_stay}
use Rattle.bg_rewriting.proofs.reactions_keep_the_rest.Goals as goal

pub returns-clause-children : goal.returns-clause-children
returns-clause-children c = children_stay

pub returns-clause-roots : goal.returns-clause-roots
returns-clause-roots c = roots_stay

pub returns-clause-points : goal.returns-clause-points
returns-clause-points c = points_stay
