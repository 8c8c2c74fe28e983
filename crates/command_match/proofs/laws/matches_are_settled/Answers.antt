use Rattle.command_match.proofs.OneAnswer.{match_settled}
use Rattle.command_match.proofs.laws.matches_are_settled.Goals as goal

pub returns : goal.returns
returns c = match_settled
