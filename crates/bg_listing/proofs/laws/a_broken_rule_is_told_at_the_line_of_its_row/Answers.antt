use Rattle.bg_listing.proofs.RowLines.{signature_told_at, big_told_at}
use Rattle.bg_listing.proofs.laws.a_broken_rule_is_told_at_the_line_of_its_row.Goals as goal

pub returns-clause-signatures : goal.returns-clause-signatures
returns-clause-signatures c = signature_told_at

pub returns-clause-bigraphs : goal.returns-clause-bigraphs
returns-clause-bigraphs c = big_told_at
