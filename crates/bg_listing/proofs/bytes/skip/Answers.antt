use Rattle.std.proofs.Common.{◌∙◌, sym, ap, Ok}
use Rattle.bg_listing.proofs.FixedBytes.{after_starts, after_not}
use Rattle.bg_listing.proofs.bytes.skip.Goals as goal

pub returns-in-Some : goal.returns-in-Some
returns-in-Some c = after_starts c.args.word.now c.args.bytes.now c.in-Some.ensures.cases.0 ∙ ap (λ rest. Ok rest) (sym c.in-Some.ensures.cases.1)

pub returns-in-None : goal.returns-in-None
returns-in-None c = after_not c.args.word.now c.args.bytes.now c.in-None.ensures.cases
