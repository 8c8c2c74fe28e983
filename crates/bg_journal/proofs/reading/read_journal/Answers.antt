use Rattle.bg_journal.proofs.Journals.{only_that}
use Rattle.bg_journal.proofs.reading.read_journal.Goals as goal

pub returns-clause-only : goal.returns-clause-only
returns-clause-only c = only_that c.args.bytes.now c.first_journal.result c.first_journal.ensures.read c.first_journal.ensures.bad
