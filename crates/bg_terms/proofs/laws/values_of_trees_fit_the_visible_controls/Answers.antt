use Rattle.bg_terms.proofs.InTurn.{read_fits, AreOfShapes-more}
use Rattle.bg_terms.proofs.laws.values_of_trees_fit_the_visible_controls.Goals as goal

pub returns-clause-fits : goal.returns-clause-fits
returns-clause-fits c = read_fits

pub returns-clause-later : goal.returns-clause-later
returns-clause-later c = AreOfShapes-more
