use Rattle.bg_terms.proofs.ShapesFit.{fits}
use Rattle.bg_terms.proofs.laws.values_of_expressions_fit_the_visible_controls.Goals as goal

pub returns : goal.returns
returns c = fits
