use Rattle.bg_algebra.proofs.DerivedLaws.{merge_barren, barren_merge}
use Rattle.bg_algebra.proofs.laws.barren_is_neutral_for_merging.Goals as goal

pub returns-clause-right : goal.returns-clause-right
returns-clause-right c = merge_barren

pub returns-clause-left : goal.returns-clause-left
returns-clause-left c = barren_merge
