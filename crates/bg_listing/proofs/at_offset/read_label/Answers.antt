use Rattle.bg_listing.proofs.Longest.{label_found, no_longer, no_label}
use Rattle.bg_listing.proofs.at_offset.read_label.Goals as goal

pub returns-in-Ok-clause-found : goal.returns-in-Ok-clause-found
returns-in-Ok-clause-found c =
    rw c.offset_before.ensures (label_found c.args.bytes.now c.args.at c.in-Ok.label c.in-Ok.rest.now (rw c.split_at.ensures.back at c.in-Ok.ensures))

pub returns-in-Ok-clause-longest : goal.returns-in-Ok-clause-longest
returns-in-Ok-clause-longest c =
    rw c.offset_before.ensures (no_longer c.args.bytes.now c.args.at c.in-Ok.label c.in-Ok.rest.now (rw c.split_at.ensures.back at c.in-Ok.ensures))

pub returns-in-Err-NotThere-clause-none : goal.returns-in-Err-NotThere-clause-none
returns-in-Err-NotThere-clause-none c =
    no_label c.args.bytes.now c.args.at (rw (c.in-Err-NotThere.field-0-is, c.split_at.ensures.back) at c.in-Err-NotThere.ensures)
