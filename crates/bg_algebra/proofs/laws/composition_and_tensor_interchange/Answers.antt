use Rattle.bg_algebra.proofs.InterchangeLaw.{interchange}
use Rattle.bg_algebra.proofs.laws.composition_and_tensor_interchange.Goals as goal

pub returns : goal.returns
returns c = interchange
