use Rattle.bg_listing.proofs.ExactLine.{signature_stops_there, big_stops_there}
use Rattle.bg_listing.proofs.laws.a_text_stops_being_a_listing_at_its_refused_line.Goals as goal

pub returns-clause-signatures : goal.returns-clause-signatures
returns-clause-signatures c = signature_stops_there

pub returns-clause-bigraphs : goal.returns-clause-bigraphs
returns-clause-bigraphs c = big_stops_there
