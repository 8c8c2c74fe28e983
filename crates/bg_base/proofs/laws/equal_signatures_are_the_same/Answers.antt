use Rattle.bg_base.proofs.EqualityLaws.{signatures_told}
use Rattle.bg_base.proofs.laws.equal_signatures_are_the_same.Goals as goal

pub returns : goal.returns
returns c = signatures_told
