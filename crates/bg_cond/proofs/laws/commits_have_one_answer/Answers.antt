use Rattle.bg_cond.proofs.Committing.{one_answer}
use Rattle.bg_cond.proofs.laws.commits_have_one_answer.Goals as goal

pub returns : goal.returns
returns c = λ system limit worker before after found one other is also. one_answer system limit worker before after found one other is also
