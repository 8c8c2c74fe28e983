use Rattle.bg_rewriting.proofs.Making.{made_reacts}
use Rattle.bg_rewriting.proofs.hosts_are_made.Goals as goal

pub returns : goal.returns
returns c = made_reacts
