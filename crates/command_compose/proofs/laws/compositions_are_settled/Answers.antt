use Rattle.command_compose.proofs.Settled.{compose_settled}
use Rattle.command_compose.proofs.laws.compositions_are_settled.Goals as goal

pub returns : goal.returns
returns c = compose_settled
