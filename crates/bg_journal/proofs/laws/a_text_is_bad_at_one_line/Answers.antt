use Rattle.bg_journal.proofs.Journals.{one_bad_line}
use Rattle.bg_journal.proofs.laws.a_text_is_bad_at_one_line.Goals as goal

pub returns : goal.returns
returns c = one_bad_line
