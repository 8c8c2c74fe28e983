use Rattle.bg_syntax.proofs.OneTree.{steps_tell}
use Rattle.bg_syntax.proofs.laws.steps_determine_models.Goals as goal

pub returns : goal.returns
returns c = λ depth one other e. steps_tell depth one other e
