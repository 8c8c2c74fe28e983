use Rattle.bg_listing.proofs.RowLines.{signature_form, big_form}
use Rattle.bg_listing.proofs.laws.a_text_that_breaks_a_rule_has_the_form_of_a_listing.Goals as goal

pub returns-clause-signatures : goal.returns-clause-signatures
returns-clause-signatures c = signature_form

pub returns-clause-bigraphs : goal.returns-clause-bigraphs
returns-clause-bigraphs c = big_form
