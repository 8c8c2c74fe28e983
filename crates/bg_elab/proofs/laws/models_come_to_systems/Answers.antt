use Rattle.bg_elab.proofs.SystemsKept.{elaborated_is_system}
use Rattle.bg_elab.proofs.laws.models_come_to_systems.Goals as goal

pub returns : goal.returns
returns c = elaborated_is_system
