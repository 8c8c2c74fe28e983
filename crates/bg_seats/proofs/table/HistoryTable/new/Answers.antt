use Rattle.bg_seats.proofs.Keeping.{opens}
use Rattle.bg_seats.proofs.table.HistoryTable.new.Goals as goal

pub of_words-requires : goal.of_words-requires
of_words-requires c = opens
