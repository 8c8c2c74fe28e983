use Rattle.bg_rules.proofs.Ancestry.{Meets-from_within, Meets-from_above, within_from_Meets, above_from_Meets}
use Rattle.bg_rules.proofs.laws.meeting_is_ancestry.Goals as goal

pub returns-clause-within : goal.returns-clause-within
returns-clause-within c = λ big node other valid. (within_from_Meets big node other valid, Meets-from_within big node other)

pub returns-clause-above : goal.returns-clause-above
returns-clause-above c = λ big node other valid differ. (above_from_Meets big node other valid differ, Meets-from_above big node other)
