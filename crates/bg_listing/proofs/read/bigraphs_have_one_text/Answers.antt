use Rattle.bg_listing.proofs.Passes.{one_big}
use Rattle.bg_listing.proofs.read.bigraphs_have_one_text.Goals as goal

pub returns : goal.returns
returns c = one_big
