use Rattle.bg_elab.proofs.SaidModels.{same_tokens}
use Rattle.bg_elab.proofs.laws.tokens_come_to_one.Goals as goal

pub returns : goal.returns
returns c = λ text tokens one other a b. same_tokens text tokens one other a b
