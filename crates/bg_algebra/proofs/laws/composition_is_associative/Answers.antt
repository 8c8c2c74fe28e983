use Rattle.bg_algebra.proofs.CompositionLaws.{associative}
use Rattle.bg_algebra.proofs.laws.composition_is_associative.Goals as goal

pub returns : goal.returns
returns c = associative
