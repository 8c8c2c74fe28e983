use Rattle.bg_algebra.proofs.Beside.{tensor_parallel}
use Rattle.bg_algebra.proofs.laws.tensor_is_parallel.Goals as goal

pub returns : goal.returns
returns c = tensor_parallel
