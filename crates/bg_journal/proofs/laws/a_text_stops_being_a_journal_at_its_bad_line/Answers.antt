use Rattle.bg_journal.proofs.BadLines.{stops_there}
use Rattle.bg_journal.proofs.laws.a_text_stops_being_a_journal_at_its_bad_line.Goals as goal

pub returns : goal.returns
returns c = stops_there
