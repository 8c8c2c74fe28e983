use Rattle.bg_listing.proofs.Passes.{big_is_found, big_is_read}
use Rattle.bg_listing.proofs.read.read_big.Goals as goal

pub returns-clause-found : goal.returns-clause-found
returns-clause-found c = big_is_found c.args.signature.now c.args.bytes.now c.args.at c.judged_big.result c.judged_big.ensures.exact c.judged_big.ensures.valid

pub returns-clause-only : goal.returns-clause-only
returns-clause-only c = big_is_read c.args.signature.now c.len.ensures.kept c.args.bytes.now c.args.at c.judged_big.result c.judged_big.ensures.exact
