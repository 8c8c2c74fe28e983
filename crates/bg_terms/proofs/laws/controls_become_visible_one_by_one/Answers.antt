use Rattle.bg_terms.proofs.Controls.{controls_none, controls_more, controls_shapes, controls_small}
use Rattle.bg_terms.proofs.laws.controls_become_visible_one_by_one.Goals as goal

pub returns-clause-none : goal.returns-clause-none
returns-clause-none c = controls_none

pub returns-clause-more : goal.returns-clause-more
returns-clause-more c = controls_more

pub returns-clause-shapes : goal.returns-clause-shapes
returns-clause-shapes c = controls_shapes

pub returns-clause-small : goal.returns-clause-small
returns-clause-small c = controls_small
