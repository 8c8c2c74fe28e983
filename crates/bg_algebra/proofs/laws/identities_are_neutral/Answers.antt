use Rattle.bg_algebra.proofs.CompositionLaws.{neutral_above, neutral_below}
use Rattle.bg_algebra.proofs.laws.identities_are_neutral.Goals as goal

pub returns-clause-above : goal.returns-clause-above
returns-clause-above c = neutral_above

pub returns-clause-below : goal.returns-clause-below
returns-clause-below c = neutral_below
