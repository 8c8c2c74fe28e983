use Rattle.bg_algebra.proofs.Framed.{framed_same}
use Rattle.bg_algebra.proofs.laws.frame_is_explicit.Goals as goal

pub returns : goal.returns
returns c = framed_same
