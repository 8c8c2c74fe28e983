use Rattle.bg_link.proofs.AbsentLaws.{no_points}
use Rattle.bg_link.proofs.laws.links_not_there_are_empty.Goals as goal

pub returns : goal.returns
returns c = no_points
