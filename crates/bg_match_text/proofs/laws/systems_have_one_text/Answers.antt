use Rattle.bg_match_text.proofs.OneText.{one_text}
use Rattle.bg_match_text.proofs.laws.systems_have_one_text.Goals as goal

pub returns : goal.returns
returns c = one_text
