use Rattle.bg_listing.proofs.RefusalLaws.{signature_listed, big_listed}
use Rattle.bg_listing.proofs.laws.accepted_texts_are_the_listings.Goals as goal

pub returns-clause-signatures : goal.returns-clause-signatures
returns-clause-signatures c = signature_listed

pub returns-clause-bigraphs : goal.returns-clause-bigraphs
returns-clause-bigraphs c = big_listed
