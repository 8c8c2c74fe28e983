use Rattle.bg_seats.proofs.table.HistoryTable.append.Given as goal

abbrev pub ghosts-record_entry : goal.ghosts-record_entry
ghosts-record_entry a = record { entry = a.entry.now }
