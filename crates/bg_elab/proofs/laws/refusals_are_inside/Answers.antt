use Rattle.bg_elab.proofs.Readings.{inside}
use Rattle.bg_elab.proofs.laws.refusals_are_inside.Goals as goal

pub returns : goal.returns
returns c = λ bytes code detail offset r. inside bytes code detail offset r
