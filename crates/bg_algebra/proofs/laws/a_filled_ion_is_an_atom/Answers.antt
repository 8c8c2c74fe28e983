use Rattle.bg_algebra.proofs.DerivedLaws.{filled_ion}
use Rattle.bg_algebra.proofs.laws.a_filled_ion_is_an_atom.Goals as goal

pub returns : goal.returns
returns c = filled_ion
