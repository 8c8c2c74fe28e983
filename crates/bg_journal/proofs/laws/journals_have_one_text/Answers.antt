use Rattle.bg_journal.proofs.Journals.{one_text}
use Rattle.bg_journal.proofs.laws.journals_have_one_text.Goals as goal

pub returns : goal.returns
returns c = one_text
