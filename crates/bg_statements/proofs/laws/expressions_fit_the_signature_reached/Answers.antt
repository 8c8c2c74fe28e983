use Rattle.bg_statements.specs.Defined.{visible_with}
use Rattle.bg_statements.proofs.Sounds.{value_fits}
use Rattle.bg_terms.proofs.InTurn.{IsRead-now}
use Rattle.bg_statements.proofs.laws.expressions_fit_the_signature_reached.Goals as goal

pub returns : goal.returns
returns c = λ d sound text formals tree expression is env depth nodes edges terms big after comes.
    value_fits d sound expression (IsRead-now tree (visible_with text formals d) expression is) env depth nodes edges terms big after comes
