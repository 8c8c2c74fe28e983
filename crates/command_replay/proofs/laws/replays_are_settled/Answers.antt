use Rattle.command_replay.proofs.Settled.{replay_settled}
use Rattle.command_replay.proofs.laws.replays_are_settled.Goals as goal

pub returns : goal.returns
returns c = replay_settled
