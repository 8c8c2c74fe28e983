use Rattle.bg_listing.proofs.Passes.{one_signature}
use Rattle.bg_listing.proofs.read.signatures_have_one_text.Goals as goal

pub returns : goal.returns
returns c = one_signature
