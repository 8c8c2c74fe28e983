use Rattle.bg_elab.proofs.Described.{described_is_system}
use Rattle.bg_elab.proofs.laws.texts_describe_systems.Goals as goal

pub returns : goal.returns
returns c = described_is_system
