use Rattle.std.proofs.Common.{sym, subst}
use Rattle.bg_base.specs.Bigraph.{IsValid, IsValidUnder}
use Rattle.bg_base.specs.Elementary.{empty}
use Rattle.bg_algebra.proofs.Nested.{empty_valid, empty_valid_under}
use Rattle.bg_algebra.proofs.elementary.empty.Goals as goal

pub returns-clause-value : goal.returns-clause-value
unfolding empty
returns-clause-value c = c.bare.ensures

pub returns-clause-valid : goal.returns-clause-valid
returns-clause-valid c = subst IsValid (sym (returns-clause-value c)) empty_valid

pub returns-clause-fits : goal.returns-clause-fits
returns-clause-fits c = λ signature. subst (IsValidUnder signature) (sym (returns-clause-value c)) (empty_valid_under signature)
