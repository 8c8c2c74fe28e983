use Rattle.bg_cond.proofs.OneVerdict.{one_verdict}
use Rattle.bg_cond.proofs.laws.steps_have_one_verdict.Goals as goal

pub returns : goal.returns
returns c = λ host rules step one other is_host are j k. one_verdict host rules step is_host are one other j k
