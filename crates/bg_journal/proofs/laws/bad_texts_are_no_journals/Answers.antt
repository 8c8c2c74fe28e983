use Rattle.bg_journal.proofs.Journals.{no_journal}
use Rattle.bg_journal.proofs.BadLines.{some_bad_line}
use Rattle.bg_journal.proofs.laws.bad_texts_are_no_journals.Goals as goal

pub returns-clause-no_journal : goal.returns-clause-no_journal
returns-clause-no_journal c = no_journal

pub returns-clause-some_line : goal.returns-clause-some_line
returns-clause-some_line c = some_bad_line
