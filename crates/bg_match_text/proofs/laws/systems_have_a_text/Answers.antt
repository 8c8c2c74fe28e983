use Rattle.bg_match_text.proofs.SomeText.{some_text}
use Rattle.bg_match_text.proofs.laws.systems_have_a_text.Goals as goal

pub returns : goal.returns
returns c = some_text
