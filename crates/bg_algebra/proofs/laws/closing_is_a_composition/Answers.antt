use Rattle.bg_algebra.proofs.ClosingLaws.{closure_valid, close_composed, closing_parts_apart, closing_faces, closing_apart}
use Rattle.bg_algebra.proofs.laws.closing_is_a_composition.Goals as goal

pub returns-clause-closure_valid : goal.returns-clause-closure_valid
returns-clause-closure_valid c = closure_valid

pub returns-clause-value : goal.returns-clause-value
returns-clause-value c = close_composed

pub returns-clause-parts : goal.returns-clause-parts
returns-clause-parts c = closing_parts_apart

pub returns-clause-faces : goal.returns-clause-faces
returns-clause-faces c = closing_faces

pub returns-clause-supports : goal.returns-clause-supports
returns-clause-supports c = closing_apart
