use Rattle.bg_listing.proofs.Rooms.{signature_left}
use Rattle.bg_listing.proofs.first_pass.control_rows_at.Goals as goal

pub returns-clause-left : goal.returns-clause-left
returns-clause-left c = signature_left (λ x. (x.0, x.1.now)) c.args.bytes.now c.args.at c.control_rows.result c.requires (rw c.split_at.ensures.back at c.control_rows.ensures)
