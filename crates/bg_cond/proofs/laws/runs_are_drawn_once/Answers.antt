use Rattle.bg_cond.proofs.DrawnRuns.{drawn_once}
use Rattle.bg_cond.proofs.laws.runs_are_drawn_once.Goals as goal

pub returns : goal.returns
returns c = λ rules worker room host after other_after state entries others end other are is one two. drawn_once rules are worker is one two
