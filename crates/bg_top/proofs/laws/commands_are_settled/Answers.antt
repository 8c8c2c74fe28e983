use Rattle.bg_top.proofs.Settled.{settled}
use Rattle.bg_top.proofs.laws.commands_are_settled.Goals as goal

pub returns : goal.returns
returns c = settled
