use Rattle.bg_journal.proofs.EntryLines.{number_read, no_number_read}
use Rattle.bg_journal.proofs.entry.number.Goals as goal

pub returns-in-None-clause-number : goal.returns-in-None-clause-number
returns-in-None-clause-number c = no_number_read c.args.bytes.now c.in-None.ensures.none

pub returns-in-Some-clause-number : goal.returns-in-Some-clause-number
returns-in-Some-clause-number c =
    rw c.split_at.ensures.back (number_read c.args.bytes.now c.in-Some.number c.in-Some.end c.in-Some.ensures.bounded c.in-Some.ensures.found)
