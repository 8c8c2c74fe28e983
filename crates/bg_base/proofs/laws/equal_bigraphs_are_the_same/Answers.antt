use Rattle.bg_base.proofs.EqualityLaws.{bigraphs_told}
use Rattle.bg_base.proofs.laws.equal_bigraphs_are_the_same.Goals as goal

pub returns : goal.returns
returns c = bigraphs_told
