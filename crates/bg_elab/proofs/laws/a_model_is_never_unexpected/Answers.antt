use Rattle.bg_elab.proofs.FineTrees.{text_expected}
use Rattle.bg_elab.proofs.laws.a_model_is_never_unexpected.Goals as goal

pub returns : goal.returns
returns c = λ bytes tokens tree refusal cut is comes. (text_expected bytes tokens tree cut is).expected refusal comes
