use Rattle.bg_listing.proofs.RefusalLaws.{signature_refused, big_refused}
use Rattle.bg_listing.proofs.laws.refused_texts_are_no_listings.Goals as goal

pub returns-clause-signatures : goal.returns-clause-signatures
returns-clause-signatures c = signature_refused

pub returns-clause-bigraphs : goal.returns-clause-bigraphs
returns-clause-bigraphs c = big_refused
