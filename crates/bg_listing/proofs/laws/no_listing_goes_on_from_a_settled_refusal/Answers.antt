use Rattle.bg_listing.proofs.SettledLines.{signature_settled, big_settled}
use Rattle.bg_listing.proofs.laws.no_listing_goes_on_from_a_settled_refusal.Goals as goal

pub returns-clause-signatures : goal.returns-clause-signatures
returns-clause-signatures c = signature_settled

pub returns-clause-bigraphs : goal.returns-clause-bigraphs
returns-clause-bigraphs c = big_settled
