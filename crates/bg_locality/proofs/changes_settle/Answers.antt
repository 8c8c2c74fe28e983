use Rattle.bg_locality.proofs.ChangeLaws.{settled}
use Rattle.bg_locality.proofs.changes_settle.Goals as goal

pub returns : goal.returns
returns c = λ before after pattern changes before_ground after_ground is all low. settled before after pattern changes before_ground after_ground is all low
