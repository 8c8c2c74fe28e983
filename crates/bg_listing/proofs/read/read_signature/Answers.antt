use Rattle.bg_listing.proofs.Passes.{signature_is_found, signature_is_read}
use Rattle.bg_listing.proofs.read.read_signature.Goals as goal

pub returns-clause-found : goal.returns-clause-found
returns-clause-found c = signature_is_found c.args.bytes.now c.args.at c.judged_signature.result c.judged_signature.ensures.exact c.judged_signature.ensures.kept

pub returns-clause-only : goal.returns-clause-only
returns-clause-only c = signature_is_read c.args.bytes.now c.args.at c.judged_signature.result c.judged_signature.ensures.exact
