use Rattle.bg_elab.proofs.Readings.{one_reading}
use Rattle.bg_elab.proofs.laws.texts_have_one_reading.Goals as goal

pub returns : goal.returns
returns c = λ bytes one other a b. one_reading bytes one other a b
