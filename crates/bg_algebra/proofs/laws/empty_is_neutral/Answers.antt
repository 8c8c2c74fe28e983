use Rattle.bg_algebra.proofs.ProductLaws.{empty_left, empty_right}
use Rattle.bg_algebra.proofs.laws.empty_is_neutral.Goals as goal

pub returns-clause-left : goal.returns-clause-left
returns-clause-left c = empty_left

pub returns-clause-right : goal.returns-clause-right
returns-clause-right c = empty_right
