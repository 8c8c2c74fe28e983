use Rattle.bg_top.proofs.Settled.{same_for_workers}
use Rattle.bg_top.proofs.laws.matches_are_the_same_for_all_workers.Goals as goal

pub returns : goal.returns
returns c = same_for_workers
