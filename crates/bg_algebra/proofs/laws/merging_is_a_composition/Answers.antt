use Rattle.bg_algebra.proofs.DerivedLaws.{merge_composed, merge_faces, merge_apart}
use Rattle.bg_algebra.proofs.laws.merging_is_a_composition.Goals as goal

pub returns-clause-value : goal.returns-clause-value
returns-clause-value c = merge_composed

pub returns-clause-faces : goal.returns-clause-faces
returns-clause-faces c = merge_faces

pub returns-clause-supports : goal.returns-clause-supports
returns-clause-supports c = merge_apart
