use Rattle.bg_terms.proofs.Fitting.{fits_before}
use Rattle.bg_terms.proofs.laws.values_fit_the_signature_reached.Goals as goal

pub returns-clause-fits : goal.returns-clause-fits
returns-clause-fits c = λ depth term before after big is kept arities one. (fits_before depth term before after big is kept arities one).fits

pub returns-clause-signature : goal.returns-clause-signature
returns-clause-signature c = λ depth term before after big is kept arities one. (fits_before depth term before after big is kept arities one).kept
