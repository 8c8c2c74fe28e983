use Rattle.bg_listing.proofs.Rooms.{big_left}
use Rattle.bg_listing.proofs.first_pass.big_rows_at.Goals as goal

pub returns-clause-left : goal.returns-clause-left
returns-clause-left c = big_left (λ x. (x.0, x.1.now)) c.args.signature.now c.args.bytes.now c.args.at c.big_rows.result c.requires (rw c.split_at.ensures.back at c.big_rows.ensures)
