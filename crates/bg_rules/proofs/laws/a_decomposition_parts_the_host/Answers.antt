use Rattle.bg_rules.proofs.Parted.{parts_of_host}
use Rattle.bg_rules.proofs.laws.a_decomposition_parts_the_host.Goals as goal

pub returns : goal.returns
returns c = parts_of_host
