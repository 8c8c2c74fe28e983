use Rattle.command_compose.proofs.Law.{composed_is}
use Rattle.command_compose.proofs.laws.compositions_are_what_is_composed.Goals as goal

pub returns : goal.returns
returns c = composed_is
